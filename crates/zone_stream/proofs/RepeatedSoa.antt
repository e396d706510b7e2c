-- The SOA that parts repeat is the first one.
use Rattle.std.proofs.Common.{◌≡◌, true, false, List, [], ◌∷◌, ◌++◌, refl, sym, subst, ◌∙◌, ap}
use Rattle.std.specs.Prelude.{Bool, Option, Some, None, cond}
use Rattle.std.specs.List.{find}
use Rattle.std.specs.Option.{option_or}
use Rattle.std.proofs.lemmas.Bool.{false_from_ne_true, true≢false}
use Rattle.std.proofs.lemmas.Option.{none-some}
use Rattle.std.proofs.lemmas.List.Folds.{find-append}
use Rattle.rdata_fields.specs.declared.record_ref.RecordRef.{RecordRef}
use Rattle.zone_record.specs.Borrowed.{IsRecordOf}
use Rattle.zone_record.specs.declared.record.Record.{Record}
use Rattle.zone_stream.specs.Cutting.{StoresRecord, is_soa, soa_to_repeat}

-- the first SOA after records without one
first_is : (before : List RecordRef) (given : RecordRef) (is : Bool) → is_soa given ≡ is → find is_soa before ≡ None → find is_soa (before ++ given ∷ []) ≡ cond is (Some given) None
first_is before given is e none = find-append is_soa before (given ∷ []) ∙ ap (λ o. option_or o (cond (is_soa given) (Some given) None)) none ∙ ap (λ b. cond b (Some given) None) e

module _ {N O : Type 0} where
  nothing_stored : (octets : Option RecordRef) (soa : Option (Record N O)) → soa ≡ None → StoresRecord octets soa → octets ≡ None
  nothing_stored None soa none h = refl
  nothing_stored (Some x) None none h = absurd h
  nothing_stored (Some x) (Some y) none h = absurd (none-some y (sym none))

  still_stored : (octets other : Option RecordRef) (soa : Record N O) → StoresRecord octets (Some soa) → StoresRecord (option_or octets other) (Some soa)
  still_stored None other soa h = absurd h
  still_stored (Some x) other soa h = h

  module _ (before : List RecordRef) (given : RecordRef) where
    -- a record that must be stored, is
    pub stored : (repeats : Bool) (old : Option (Record N O)) (soa : Record N O) → (repeats ≡ true) × (is_soa given ≡ true) × (old ≡ None) → IsRecordOf given soa → StoresRecord (soa_to_repeat repeats before) old
        → StoresRecord (soa_to_repeat repeats (before ++ given ∷ [])) (Some soa)
    stored false old soa must is h = absurd (true≢false (sym must.0))
    stored true old soa must is h = subst (λ o. StoresRecord o (Some soa)) (sym (first_is before given true must.1 (nothing_stored (find is_soa before) old must.2 h))) is

    -- another record changes nothing
    pub passed : (repeats : Bool) (soa : Option (Record N O)) → ((repeats ≡ true) × (is_soa given ≡ true) × (soa ≡ None) → ⊥) → StoresRecord (soa_to_repeat repeats before) soa → StoresRecord (soa_to_repeat repeats (before ++ given ∷ [])) soa
    passed false soa must h = h
    passed true (Some soa) must h = subst (λ o. StoresRecord o (Some soa)) (sym (find-append is_soa before (given ∷ []))) (still_stored (find is_soa before) _ soa h)
    passed true None must h =
        let none : Option (Record N O) = None in
        let other : is_soa given ≡ false = false_from_ne_true (is_soa given) (λ e. must (refl, e, refl)) in
        subst (λ o. StoresRecord o none) (sym (first_is before given false other (nothing_stored (find is_soa before) none refl h))) tt
