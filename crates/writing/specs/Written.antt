-- The bytes of a tuple that is written, and the answer to a put.
use Rattle.std.specs.Prelude.{ℕ, ◌+◌, Bool, true, false, cond, List, ◌∷◌, ◌++◌, length, Ok, Err, Result, nat_lt}
use Rattle.indexfile.specs.Numbers.{bytes_of}
use Rattle.writing.specs.declared.header.Header.{Header}
use Rattle.writing.specs.declared.refusal.PutRefusal.TheVariants.{LongBody, Full}
use Rattle.writing.specs.declared.refusal.PutError.{PutError}
use Rattle.writing.specs.declared.refusal.PutError.TheVariants.{Refused, Memory}

-- the 14 bytes in front of a body of n bytes: Sync, SourceType, SourceID, DataType, DataTime, DataSize1
abbrev pub front : Header → ℕ → List ℕ
front h n = 0 ∷ 128 ∷ (bytes_of 2 h.source_type ++ (bytes_of 2 h.source_id ++ (bytes_of 2 h.data_type ++ (bytes_of 4 h.time ++ bytes_of 2 n))))

-- the front, the body, and DataSize2
abbrev pub written : Header → List ℕ → List ℕ
written h body = front h (length body) ++ (body ++ bytes_of 2 (length body))

-- whether a put found no memory
abbrev pub wanting : Result (Unit {0}) PutError → Bool
wanting (Ok u) = false
wanting (Err (Refused e)) = false
wanting (Err Memory) = true

-- the answer to a put, for which there is memory or not, and the output afterwards
abbrev pub putting : Bool → List ℕ → Header → List ℕ → Result (Unit {0}) PutError × List ℕ
putting want before h body =
    cond (nat_lt 65535 (length body)) (Err (Refused LongBody), before) (cond (nat_lt 2147483647 (length before + (length body + 16))) (Err (Refused Full), before) (cond want (Err Memory, before) (Ok tt, before ++ written h body)))
