-- A TTL and a class are parsed one after the other.
use Rattle.std.proofs.Common.{◌≡◌, ℕ, true, List, [], ◌∷◌, inl, inr, Option, Some, None, refl, sym, ap, subst, ◌∙◌}
use Rattle.std.specs.Prelude.{is_some}
use Rattle.zone_reader.specs.Headers.{ParsesTtlAndClass, ParsesOptional, NoneNext}

module _ {T : Type 0} (SaysTtl SaysClass : T → ℕ → Type 0) where
  pub ttl_first : (n : ℕ) (tokens middle left : List T) (class : Option ℕ) → ParsesOptional SaysTtl tokens (Some n) middle → ParsesOptional SaysClass middle class left → ParsesTtlAndClass SaysTtl SaysClass tokens (Some n) class left
  ttl_first n tokens middle left (Some m) h k = record {
    head = h.0 ∷ k.0 ∷ [];
    whole = h.1 ∙ ap (λ l. h.0 ∷ l) k.1;
    is = record { front = h.0 ∷ []; back = k.0 ∷ []; whole = refl; order = inl (h.2, k.2) };
    ends = (λ e. cc, λ e. cc);
  }
  ttl_first n tokens middle left None h k = record {
    head = h.0 ∷ [];
    whole = h.1 ∙ ap (λ l. h.0 ∷ l) (sym k.0);
    is = record { front = h.0 ∷ []; back = []; whole = refl; order = inl (h.2, refl) };
    ends = (λ e. cc, λ e. subst (NoneNext SaysClass) (sym k.0) k.1);
  }

  pub class_first : (tokens same middle left : List T) (ttl class : Option ℕ) → ParsesOptional SaysTtl tokens None same → is_some class ≡ true
      → ParsesOptional SaysClass same class middle → ParsesOptional SaysTtl middle ttl left → ParsesTtlAndClass SaysTtl SaysClass tokens ttl class left
  class_first tokens same middle left ttl None z some h k = cc
  class_first tokens same middle left (Some n) (Some m) z some h k = record {
    head = h.0 ∷ k.0 ∷ [];
    whole = sym z.0 ∙ h.1 ∙ ap (λ l. h.0 ∷ l) k.1;
    is = record { front = h.0 ∷ []; back = k.0 ∷ []; whole = refl; order = inr (h.2, k.2) };
    ends = (λ e. cc, λ e. cc);
  }
  class_first tokens same middle left None (Some m) z some h k = record {
    head = h.0 ∷ [];
    whole = sym z.0 ∙ h.1 ∙ ap (λ l. h.0 ∷ l) (sym k.0);
    is = record { front = h.0 ∷ []; back = []; whole = refl; order = inr (h.2, refl) };
    ends = (λ e. subst (NoneNext SaysTtl) (sym k.0) k.1, λ e. cc);
  }

  pub neither_said : (tokens same left : List T) → ParsesOptional SaysTtl tokens None same → ParsesOptional SaysClass same None left → ParsesTtlAndClass SaysTtl SaysClass tokens None None left
  neither_said tokens same left z h = record {
    head = [];
    whole = sym z.0 ∙ sym h.0;
    is = record { front = []; back = []; whole = refl; order = inl (refl, refl) };
    ends = (λ e. subst (NoneNext SaysTtl) (sym (h.0 ∙ z.0)) z.1, λ e. subst (NoneNext SaysClass) (sym h.0) h.1);
  }
