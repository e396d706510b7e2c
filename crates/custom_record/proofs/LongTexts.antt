-- A text of any length, as it is parsed from a token: the scanner's octets, and the list that they are.
use Rattle.std.proofs.Common.{ℕ, ◌≡◌, ◌∙◌, List, refl, ap, Option, Some, None, Result, Ok, Err}
use Rattle.std.specs.Prelude.{IsOkAnd, MatchOption, MatchResult}
use Rattle.dns_octets.specs.Room.{Room}
use Rattle.dns_symbol.specs.Cause.{Cause, IsCause, end_of_entry}
use Rattle.dns_scan.specs.Asks.{Builds}
use Rattle.dns_scan.specs.Steps.{HasStepOctets, step_octet}
use Rattle.dns_scan.specs.Tokens.{Token, ScansToken}

module _ {S E O : Type 0} (next : S → Option Token → S → Type 0) (cause : E → Cause) (room : Room) (octets : O → List ℕ) where
  abbrev BuildsAs : {V : Type 0} → (V → List ℕ) → Token → Result V E → Type 0
  BuildsAs = Builds cause (HasStepOctets cause room step_octet)

  pub scanned_list : (old : S) (o : O) (new : S) → ScansToken next cause (BuildsAs octets) old (Ok o) new → ScansToken next cause (BuildsAs (λ s. s)) old (Ok (octets o)) new
  scanned_list old o new scans = record { token = scans.token; taken = scans.taken; answer = by scans.token scans.answer }
    where
      given : (built : List ℕ) (a : Result (Unit {0}) E) → MatchResult a (λ _. IsOkAnd {E = E} (Ok o) (λ x. octets x ≡ built)) (λ e. Ok o ≡ Err e)
          → MatchResult a (λ _. IsOkAnd {E = E} (Ok (octets o)) (λ x. x ≡ built)) (λ e. Ok (octets o) ≡ Err e)
      given built (Ok u) g = g
      given built (Err e) g = cc g

      by : (t : Option Token) → MatchOption t (IsCause {V = O} cause (Ok o) end_of_entry) (λ t. BuildsAs octets t (Ok o))
          → MatchOption t (IsCause {V = List ℕ} cause (Ok (octets o)) end_of_entry) (λ t. BuildsAs (λ s. s) t (Ok (octets o)))
      by None h = absurd h
      by (Some t) h = record { answer = h.answer; built = h.built; asks = h.asks; gives = given h.built h.answer h.gives }

  refused_given : (e : E) (built : List ℕ) (a : Result (Unit {0}) E) (r : Result O E) (q : Result (List ℕ) E) → r ≡ Err e → q ≡ Err e
      → MatchResult a (λ _. IsOkAnd r (λ x. octets x ≡ built)) (λ y. r ≡ Err y) → MatchResult a (λ _. IsOkAnd q (λ x. x ≡ built)) (λ y. q ≡ Err y)
  refused_given e built (Ok u) (Ok o) q is same g = cc
  refused_given e built (Ok u) (Err y) q is same g = absurd g
  refused_given e built (Err y) r q is same g = let one : e ≡ y = cc in same ∙ ap (λ x. Err x) one

  pub refused_list : (old : S) (e : E) (new : S) → ScansToken next cause (BuildsAs octets) old (Err e) new → ScansToken next cause (BuildsAs (λ (s : List ℕ). s)) old (Err e) new
  refused_list old e new scans = record { token = scans.token; taken = scans.taken; answer = by scans.token scans.answer }
    where
      by : (t : Option Token) → MatchOption t (IsCause {V = O} cause (Err e) end_of_entry) (λ t. BuildsAs octets t (Err e))
          → MatchOption t (IsCause {V = List ℕ} cause (Err e) end_of_entry) (λ t. BuildsAs (λ (s : List ℕ). s) t (Err e))
      by None h = h
      by (Some t) h = record { answer = h.answer; built = h.built; asks = h.asks; gives = refused_given e h.built h.answer (Err e) (Err e) refl refl h.gives }
