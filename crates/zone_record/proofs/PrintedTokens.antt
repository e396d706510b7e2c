-- Tokens that are printed one after another.
use Rattle.std.proofs.Common.{ℕ, ◌≡◌, ◌≢◌, false, length, List, [], ◌∷◌, ◌++◌, refl, sym, ap, subst, ◌∙◌, append-nil, append_assoc}
use Rattle.std.proofs.lemmas.List.{map-append}
use Rattle.std.specs.Prelude.{Result, Ok, Err, OnErr}
use Rattle.dns_zone.specs.Layout.{Step}
use Rattle.dns_zone.specs.Writers.{WritesSteps}
use Rattle.dns_zone.proofs.Runs.{runs_none, runs_append, runs_step}
use Rattle.zone_record.specs.RdataPrinting.{FailsInSteps, token_step, token_steps}
use Rattle.dns_codec.specs.Base.{Base, encoded}
use Rattle.rdata.specs.Digits.{printed_digits}
use Rattle.rdata.specs.Rests.{PrintedToken}

-- some of all tokens are printed, and these are left
pub record HasPrinted {F : Type 0} (blocks : F → ℕ) (gives : F → Step → F → Type 0) (w : F) (all left : List PrintedToken) (v : F) : Type 0 where
  pub done : List PrintedToken
  pub whole : all ≡ done ++ left
  pub steps : WritesSteps blocks gives w (token_steps done) v

module _ {F : Type 0} (blocks : F → ℕ) (gives : F → Step → F → Type 0) (w : F) (all : List PrintedToken) where
  pub none_printed : HasPrinted blocks gives w all all w
  none_printed = record { done = []; whole = refl; steps = runs_none blocks gives w }

  pub more_printed : (now : List PrintedToken) (t : PrintedToken) (left : List PrintedToken) (v u : F) → HasPrinted blocks gives w all now v → now ≡ t ∷ left → blocks u ≡ blocks v → gives v (token_step t) u
      → HasPrinted blocks gives w all left u
  more_printed now t left v u h is level gave = record {
    done = h.done ++ t ∷ [];
    whole = h.whole ∙ ap (λ l. h.done ++ l) is ∙ sym (append_assoc h.done (t ∷ []) left);
    steps = subst (λ xs. WritesSteps blocks gives w xs u) (sym (map-append token_step h.done (t ∷ [])))
        (runs_append blocks gives w (token_steps h.done) v (token_step t ∷ []) u h.steps (runs_step blocks gives v (token_step t) u level gave));
  }

  pub all_printed : (left : List PrintedToken) (v : F) → HasPrinted blocks gives w all left v → left ≡ [] → WritesSteps blocks gives w (token_steps all) v
  all_printed left v h none = subst (λ l. WritesSteps blocks gives w (token_steps l) v) (sym (h.whole ∙ ap (λ l. h.done ++ l) none ∙ append-nil h.done)) h.steps

  pub rest_printed : (left : List PrintedToken) (v u : F) → HasPrinted blocks gives w all left v → WritesSteps blocks gives v (token_steps left) u → WritesSteps blocks gives w (token_steps all) u
  rest_printed left v u h later =
      subst (λ xs. WritesSteps blocks gives w xs u) (sym (ap token_steps h.whole ∙ map-append token_step h.done left))
      (runs_append blocks gives w (token_steps h.done) v (token_steps left) u h.steps later)

  pub one_printed : (t : PrintedToken) (v : F) → all ≡ t ∷ [] → blocks v ≡ blocks w → gives w (token_step t) v → WritesSteps blocks gives w (token_steps all) v
  one_printed t v is level gave = all_printed [] v (more_printed all t [] w v none_printed is level gave) refl

module _ {F : Type 0} (blocks : F → ℕ) (gives : F → Step → F → Type 0) (fails : F → Step → Type 0) (w : F) (all : List PrintedToken) where
  -- the next of the tokens left is not printed
  pub next_failed : (now : List PrintedToken) (t : PrintedToken) (left : List PrintedToken) (v : F) → HasPrinted blocks gives w all now v → now ≡ t ∷ left → fails v (token_step t) → FailsInSteps blocks gives fails w (token_steps all)
  next_failed now t left v h is failed = record {
    taken = token_steps h.done;
    next = token_step t;
    left = token_steps left;
    steps_are = ap token_steps (h.whole ∙ ap (λ l. h.done ++ l) is) ∙ map-append token_step h.done (t ∷ left);
    stands = v;
    steps = h.steps;
    failed = failed;
  }

  pub rest_failed : (left : List PrintedToken) (v : F) → HasPrinted blocks gives w all left v → FailsInSteps blocks gives fails v (token_steps left) → FailsInSteps blocks gives fails w (token_steps all)
  rest_failed left v h later = record {
    taken = token_steps h.done ++ later.taken;
    next = later.next;
    left = later.left;
    steps_are = ap token_steps h.whole ∙ map-append token_step h.done left ∙ ap (λ xs. token_steps h.done ++ xs) later.steps_are ∙ sym (append_assoc (token_steps h.done) later.taken (later.next ∷ later.left));
    stands = later.stands;
    steps = runs_append blocks gives w (token_steps h.done) v later.taken later.stands h.steps later.steps;
    failed = later.failed;
  }

  pub one_failed : (t : PrintedToken) → all ≡ t ∷ [] → fails w (token_step t) → FailsInSteps blocks gives fails w (token_steps all)
  one_failed t is failed = next_failed all t [] w (none_printed blocks gives w all) is failed

-- what holds whatever the result is
pub on_err_of : {T E P : Type 0} (r : Result T E) → P → OnErr r P
on_err_of (Ok x) p = tt
on_err_of (Err e) p = p

-- some octets in digits are one token
abbrev pub digit_word : Base → List ℕ → List PrintedToken
digit_word b octets = record { is_quoted = false; text = encoded b octets } ∷ []

pub digits_token : (b : Base) (octets : List ℕ) → length octets ≢ 0 → printed_digits b octets ≡ digit_word b octets
digits_token b [] some = absurd (some refl)
digits_token b (o ∷ os) some = refl
