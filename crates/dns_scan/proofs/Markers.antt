-- The marker call, if the remaining tokens of a scanner are known.
use Rattle.std.proofs.Common.{◌≡◌, List, ◌∷◌, refl, sym, ◌∙◌, Option, Some, Result, Ok, Err, Bool, true, false}
use Rattle.std.specs.Prelude.{◌≢◌, ◌↔◌, IsTrue, IsOkAnd}
use Rattle.dns_scan.specs.Unread.{HasTokens, first_of, consumes_first}
use Rattle.dns_scan.specs.Tokens.{Token, MarkerCall, marker}
use Rattle.dns_scan.proofs.TokensLeft.{peeked}

module _ {S E : Type 0} (next : S → Option Token → S → Type 0) (old new : S) where
  pub marker_found : (r : Result Bool E) → MarkerCall next old r new → (tokens : List Token) → HasTokens next old tokens → IsOkAnd r (λ found. IsTrue found ↔ (first_of tokens ≡ Some marker))
  marker_found (Ok true) call tokens stands = ((λ _. sym (consumes_first next old tokens (Some marker) new stands call).0), λ _. refl)
  marker_found (Ok false) call tokens stands = ((λ is. cc), λ first. absurd (call.2 ((peeked next old new call.0 tokens stands call.1).0 ∙ first)))
  marker_found (Err e) call tokens stands = absurd call

  pub marker_taken : (r : Result Bool E) → MarkerCall next old r new → (others : List Token) → HasTokens next old (marker ∷ others) → HasTokens next new others
  marker_taken (Ok true) call others stands = (consumes_first next old (marker ∷ others) (Some marker) new stands call).1
  marker_taken (Ok false) call others stands = absurd (call.2 (peeked next old new call.0 (marker ∷ others) stands call.1).0)
  marker_taken (Err e) call others stands = absurd call

  pub marker_left : (r : Result Bool E) → MarkerCall next old r new → (tokens : List Token) → HasTokens next old tokens → first_of tokens ≢ Some marker → HasTokens next new tokens × (r ≡ Ok false)
  marker_left (Ok true) call tokens stands other = absurd (other (sym (consumes_first next old tokens (Some marker) new stands call).0))
  marker_left (Ok false) call tokens stands other = ((peeked next old new call.0 tokens stands call.1).1, λ i. Ok false)
  marker_left (Err e) call tokens stands other = absurd call
