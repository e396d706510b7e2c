-- Sorted runs that are merged into one.
use Rattle.std.specs.Prelude.{◌≡◌, ◌≢◌, List, [], ◌∷◌, ◌++◌, All, ⊤}
use Rattle.std.specs.List.{dedup}
use Rattle.std.specs.declared.cmp.Ordering.TheVariants.{Less, Greater}
use Rattle.zone_record.specs.declared.record.Record.{Record}
use Rattle.zone_contents.specs.Lookups.{AreCanonicalOf, canonical_order, same_key}

-- the records of runs, run by run
abbrev pub records_of_runs : {N O : Type 0} → List (List (Record N O)) → List (Record N O)
records_of_runs [] = []
records_of_runs (run ∷ runs) = run ++ records_of_runs runs

-- a run has no records, or begins with one that has this property
abbrev pub IsLedBy : {N O : Type 0} → (Record N O → Type 0) → List (Record N O) → Type 0
IsLedBy P [] = ⊤
IsLedBy P (r ∷ run) = P r

-- the first record of a run is taken: it comes before the first ones of earlier runs, and not after the first one of a later run
pub record RemovesFirst {N O : Type 0} (runs : List (List (Record N O))) (r : Record N O) (left : List (List (Record N O))) : Type 0 where
  pub earlier : List (List (Record N O))
  pub run : List (Record N O)
  pub later : List (List (Record N O))
  pub was : runs ≡ earlier ++ (r ∷ run) ∷ later
  pub is : left ≡ earlier ++ run ∷ later
  pub before : All (IsLedBy (λ s. canonical_order r s ≡ Less)) earlier
  pub not_behind : All (IsLedBy (λ s. canonical_order r s ≢ Greater)) later

-- records are taken until all runs are empty
abbrev pub MergesTo : {N O : Type 0} → List (List (Record N O)) → List (Record N O) → Type 0
MergesTo runs [] = All (λ run. run ≡ []) runs
MergesTo {N} {O} runs (r ∷ records) = (left : List (List (Record N O))) × RemovesFirst runs r left × MergesTo left records

-- each run is the canonical list of its part of all records
abbrev pub AreRunsOf : {N O : Type 0} → List (List (Record N O)) → List (List (Record N O)) → Type 0
AreRunsOf [] [] = ⊤
AreRunsOf [] (run ∷ runs) = ⊥
AreRunsOf (part ∷ parts) [] = ⊥
AreRunsOf (part ∷ parts) (run ∷ runs) = AreCanonicalOf part run × AreRunsOf parts runs

-- records are taken from runs of parts of all records
abbrev pub IsMergeOf : {N O : Type 0} → List (List (Record N O)) → List (Record N O) → Type 0
IsMergeOf {N} {O} parts records = (runs : List (List (Record N O))) × AreRunsOf parts runs × MergesTo runs records

-- without duplicates these are the canonical set of all records
abbrev pub MergesAreCanonical : Type 0 → Type 0 → Type 0
MergesAreCanonical N O = (parts : List (List (Record N O))) (records : List (Record N O)) → IsMergeOf parts records → AreCanonicalOf (records_of_runs parts) (dedup same_key records)

-- all canonical sets of all records are this one
abbrev pub MergesAreOne : Type 0 → Type 0 → Type 0
MergesAreOne N O =
    (parts : List (List (Record N O))) (records canonical : List (Record N O)) → IsMergeOf parts records → AreCanonicalOf (records_of_runs parts) canonical → dedup same_key records ≡ canonical
