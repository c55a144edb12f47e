-- The examples hold: the definitions compute to what each says.
use Rattle.std.proofs.Common.{refl}
use Rattle.std.specs.List.{AllByRecursion}
use Rattle.listing.specs.Listing.{turns}
use Rattle.listing.specs.Scanning.{scanned}
use Rattle.listing.specs.Clearing.{first_crossing}
use Rattle.examples.specs.Examples.{Holds, examples}

pub all_hold : AllByRecursion Holds examples
unfolding turns scanned first_crossing
all_hold = (
  record { listed = refl; scanned = refl; answers = (refl, (refl, (refl, tt))) },
  (
    record { listed = refl; scanned = refl; answers = tt },
    (
      record { listed = refl; scanned = refl; answers = tt },
      (
        record { listed = refl; scanned = refl; answers = tt },
        (
          record { listed = refl; scanned = refl; answers = tt },
          (
            record { listed = refl; scanned = refl; answers = (refl, (refl, (refl, tt))) },
            (
              record { listed = refl; scanned = refl; answers = (refl, (refl, tt)) },
              (
                record { listed = refl; scanned = refl; answers = tt },
                (
                  record { listed = refl; scanned = refl; answers = tt },
                  (
                    record { listed = refl; scanned = refl; answers = (refl, tt) },
                    (refl, (refl, (refl, (refl, tt)))),
                  ),
                ),
              ),
            ),
          ),
        ),
      ),
    ),
  ),
)
