-- What has one octet at least.
use Rattle.std.proofs.Common.{ℕ, ◌≡◌, ◌≢◌, List, [], ◌∷◌, ◌++◌, length, refl, sym, ap, subst, ◌∙◌, inl, inr, arith, append-nil, length-append}
use Rattle.std.specs.Prelude.{Result, Ok, Err}
use Rattle.dns_octets.specs.Room.{Room}
use Rattle.dns_octets.specs.Appending.{Gains}
use Rattle.rdata_fields.specs.Source.{next_place}
use Rattle.dns_lexer.specs.EntryTokens.{TokenSeen}
use Rattle.rdata.specs.Rests.{RestForm, RefusesAs, RefusesRest, ParsesTail, WantsMore, some_form}
use Rattle.rdata_fields.specs.declared.record_error.RecordError.{RecordError}
use Rattle.rdata.proofs.ErrorPlaces.{kind_of, known_at}

none_gained : (old octets new : List ℕ) → new ≡ old ++ octets → length new ≡ length old → octets ≡ []
none_gained old [] new is same = refl
none_gained old (o ∷ os) new is same = let sum = sym same ∙ ap length is ∙ length-append old (o ∷ os) in absurd (omega (arith, sum))

some_gained : (old octets new : List ℕ) → new ≡ old ++ octets → length new ≢ length old → octets ≢ []
some_gained old octets new is more none = more (ap length (is ∙ ap (λ o. old ++ o) none ∙ append-nil old))

module _ (f : RestForm) (room : Room) (begun : ℕ) (tokens : List TokenSeen) (old : List ℕ) where
  refused_as : (left : List TokenSeen) (e : _) → RefusesAs room f tokens old left e → RefusesAs room (some_form f) tokens old left e
  refused_as left e (inl h) = inl h
  refused_as left e (inr h) = inr (inl h.0, λ octets sp. h.1 octets sp.0)

  pub some_refused : (r : RecordError) (left : List TokenSeen) (new : List ℕ) → RefusesRest room f begun tokens old r left new → RefusesRest room (some_form f) begun tokens old r left new
  some_refused r left new h = record { at = h.at; why = refused_as left r.kind h.why; extends = h.extends }

  pub some_taken : (r : Result (Unit {0}) RecordError) (end count : ℕ) (left : List TokenSeen) (new : List ℕ) → ((a b : List ℕ) → f.spells tokens a → f.spells tokens b → a ≡ b) → end ≡ begun → count ≡ length old
      → (left ≡ []) × Gains (f.spells tokens) old new → WantsMore count end left new r → ParsesTail room (some_form f) begun tokens old r left new
  some_taken (Ok x) end count left new once ends size taken want =
      (taken.0, (taken.1.0, (taken.1.1, some_gained old taken.1.0 new taken.1.2 (λ same. want (same ∙ sym size))), taken.1.2))
  some_taken (Err r) end count left new once ends size taken want =
      let none : taken.1.0 ≡ [] = none_gained old taken.1.0 new taken.1.2 (want.0 ∙ size) in
      let spelled : f.spells tokens [] = subst (f.spells tokens) none taken.1.1 in
      record {
        at = known_at r want.1 (ap (next_place left) ends);
        why = inr (inr (kind_of r want.1, taken.0, spelled), λ octets sp. sp.1 (once octets [] sp.0 spelled));
        extends = (taken.1.0, taken.1.2);
      }
