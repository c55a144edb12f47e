-- The settings that govern a row's tuple, and the judgement on its body.
use Rattle.std.specs.Prelude.{ℕ, ◌-◌, Bool, cond, ◌&&◌, List, [], ◌∷◌, length, take, drop, is_some, Some, None, Ok, Err, filter, Option, Result, ◌==◌, nat_le, nat_lt}
use Rattle.std.specs.Option.{ok_or, option_map}
use Rattle.std.specs.Result.{result_ok, result_map_both}
use Rattle.recording.specs.declared.Cell.{Cell}
use Rattle.records.specs.Records.{Meaning}
use Rattle.layouts.specs.declared.settings.Counter.{Counter}
use Rattle.layouts.specs.declared.settings.Counter.TheVariants.{Without}
use Rattle.layouts.specs.Settings.{settings_of}
use Rattle.bodies.specs.declared.fault.TupleFault.{TupleFault}
use Rattle.bodies.specs.Judge.{needs_settings, tuple_of}
use Rattle.indexfile.specs.declared.row.Row.{Row}
use Rattle.listing.specs.declared.answer.FetchRefusal.{FetchRefusal}
use Rattle.listing.specs.declared.answer.SettleRefusal.{SettleRefusal}
use Rattle.listing.specs.declared.answer.SettleRefusal.TheVariants.{ShortTable, RowNotHeld, RowNotStanding, NoSettings}
use Rattle.listing.specs.declared.answer.Finding.{Finding}
use Rattle.listing.specs.Progress.{Progress}
use Rattle.listing.specs.Fetching.{bytes_at, standing, row_of, fetching}

-- the two rows are of one head: source type and source ID
abbrev pub same_head : Row → Row → Bool
same_head x y = x.source_type == y.source_type && x.source_id == y.source_id

-- the body of a row's tuple: its bytes without the first 14 and the last 2
abbrev pub body : List Cell → Row → List ℕ
body cs y = take (y.length - 16) (drop 14 (bytes_at cs y.place y.length))

-- whether pings have an overload counter, by a settings body, if it is sound
abbrev pub counter_in : List ℕ → Option Counter
counter_in bs = option_map (λ s. s.counter) (result_ok (settings_of bs))

-- the last of a list
abbrev pub last : List Row → Option Row
last [] = None
last (x ∷ []) = Some x
last (x ∷ y ∷ rows) = last (y ∷ rows)

-- a finding, if there is a fault: the row's number, and inside it the tuple's fault
abbrev pub in_row : ℕ → Result (Unit {0}) TupleFault → Option Finding
in_row i (Ok u) = None
in_row i (Err f) = Some (record { row = i; fault = f })

module _ (m : Meaning) (cs : List Cell) where
  -- a row x is settings for y: it is its standing record, of type 15 and of y's head, and its body is sound
  abbrev pub is_settings : Row → Row → Bool
  is_settings y x = standing (m cs x.place) x && (x.tag == 15 && (same_head x y && is_some (counter_in (body cs x))))

  -- the last of the earlier rows that is
  abbrev pub governing : List Row → Row → Option Row
  governing earlier y = last (filter (is_settings y) earlier)

  abbrev pub counter_by : Option Row → Option Counter
  counter_by None = None
  counter_by (Some x) = counter_in (body cs x)

  -- with a counter or without: by the governing settings, if the type needs any; without one otherwise
  abbrev pub settled : List Row → Row → Option Counter
  settled earlier y = cond (needs_settings y.tag) (counter_by (governing earlier y)) (Some Without)

  -- a call: refused, or settled with a counter or without
  abbrev pub settling : ℕ → Progress → Result Counter SettleRefusal
  settling i s =
      cond (nat_lt (length s.table) s.rows) (Err ShortTable)
      (cond (nat_le s.rows i) (Err RowNotHeld)
      (cond (standing (m cs (row_of s i).place) (row_of s i)) (ok_or (settled (take i s.table) (row_of s i)) NoSettings) (Err RowNotStanding)))

  -- what is found of a row, by the rows before it
  abbrev pub judged : List Row → Row → Result (Unit {0}) TupleFault
  judged earlier y = tuple_of y.tag (settled earlier y) (body cs y)

  -- a call: what a fetch does; where it is not refused, the tuple is sound or there is a finding
  abbrev pub inspecting : ℕ → List ℕ → Progress → Result (Option Finding) FetchRefusal × List ℕ
  inspecting i buffer s = (result_map_both (λ n. in_row i (judged (take i s.table) (row_of s i))) (λ e. e) (fetching m cs i buffer s).0, (fetching m cs i buffer s).1)

-- an inspection's answer but for the row's number
abbrev pub found : Option Finding → Result (Unit {0}) TupleFault
found None = Ok tt
found (Some f) = Err f.fault

abbrev pub unnumbered : Result (Option Finding) FetchRefusal → Result (Result (Unit {0}) TupleFault) FetchRefusal
unnumbered r = result_map_both found (λ e. e) r
