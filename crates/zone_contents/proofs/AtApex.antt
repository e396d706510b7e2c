-- The records of a type at an apex, one after another.
use Rattle.std.proofs.Common.{ℕ, ◌≡◌, ◌≢◌, ◌+◌, cond, Bool, true, false, Option, Some, None, List, [], ◌∷◌, ◌++◌, length, refl, sym, ap, ◌∙◌, MatchOption}
use Rattle.std.specs.Prelude.{count_by}
use Rattle.std.proofs.lemmas.List.Sums.{sum_by-append}
use Rattle.rdata_values.specs.Rtype as Rtype
use Rattle.zone_record.specs.TypeData.{TypeData}
use Rattle.zone_record.specs.declared.record.Record.{Record}
use Rattle.zone_serial.specs.Serials.{soa_serial}
use Rattle.zone_contents.specs.Checks.{HasSerial, HaveVerdicts, HasVerdict, apex_data}
use Rattle.zone_contents.specs.declared.verdict.Verdict.{Verdict}

-- one more of these is counted if it passes
pub count-push : (p : TypeData → Bool) (ds : List TypeData) (d : TypeData) → count_by p (ds ++ d ∷ []) ≡ count_by p ds + cond (p d) 1 0
count-push p ds d = sum_by-append (λ x. cond (p x) 1 0) ds (d ∷ []) ∙ ap (λ n. count_by p ds + n) (last (p d)) where
  last : (b : Bool) → count_by (λ (x : TypeData). b) (d ∷ []) ≡ cond b 1 0
  last true = refl
  last false = refl

none_here : (o : Option ℕ) (serial : ℕ) → o ≡ None → o ≡ Some serial → ⊥
none_here o serial h k = cc

only_same : (d e : TypeData) → d ∷ [] ≡ e ∷ [] → d ≡ e
only_same d e h = cc

module _ {N O : Type 0} (apex : List (List ℕ)) (records : List (Record N O)) where
  -- the serial of the one SOA
  pub serial_found : (d : TypeData) (r : Option ℕ) → apex_data Rtype.soa apex records ≡ d ∷ [] → r ≡ soa_serial d
      → MatchOption r ((serial : ℕ) → HasSerial apex records serial → ⊥) (HasSerial apex records)
  serial_found d None e h = λ serial has. none_here (soa_serial d) serial (sym h) (ap soa_serial (only_same d has.0 (sym e ∙ has.1)) ∙ has.2)
  serial_found d (Some serial) e h = (d, e, sym h)

  -- without a single SOA the apex has no serial
  pub serial_absent : length (apex_data Rtype.soa apex records) ≢ 1 → (serial : ℕ) → HasSerial apex records serial → ⊥
  serial_absent other serial has = other (ap length has.1)

-- one more of these has its verdict
pub verdicts_push : (serial : ℕ) (octets : List ℕ) (all ds : List TypeData) (vs : List Verdict) (d : TypeData) (v : Verdict) → HaveVerdicts serial octets all ds vs
    → HasVerdict serial octets all d v → HaveVerdicts serial octets all (ds ++ d ∷ []) (vs ++ v ∷ [])
verdicts_push serial octets all [] [] d v h k = (k, tt)
verdicts_push serial octets all [] (w ∷ vs) d v h k = absurd h
verdicts_push serial octets all (e ∷ ds) [] d v h k = absurd h
verdicts_push serial octets all (e ∷ ds) (w ∷ vs) d v h k = (h.0, verdicts_push serial octets all ds vs d v h.1 k)
