-- The effect of an entry call on a scanner, as calls for the tokens that remain.
use Rattle.std.proofs.Common.{List, [], ◌∷◌, ◌++◌, ◌≡◌, refl, sym, ap, subst, inl, inr, ⊎_elim, Option, Some, None, Result, Ok, Err}
use Rattle.std.specs.Prelude.{IsErr, IsOk, MatchResult}
use Rattle.dns_scan.specs.Entries.{ScansEach, ScansEntry}
use Rattle.dns_scan.specs.Join.{CallsTokens, LeavesOf}
use Rattle.dns_scan.specs.Unread.{HasTokens, consumes_first}
use Rattle.dns_scan.specs.Tokens.{Token}

module _ {S F E : Type 0} (next : S → Option Token → S → Type 0) (call : F → Token → Result (Unit {0}) E → F → Type 0) where
  takes_in_turn : (ts : List Token) (s : S) (f : F) (r : Result (Unit {0}) E) (u : S) (g : F) → ScansEach next call ts s f r u g → (tokens : List Token) → HasTokens next s tokens
      → (rest : List Token) × CallsTokens call tokens f r rest g × HasTokens next u rest
  takes_in_turn [] s f r u g h [] stands = let took = consumes_first next s [] None u stands h.0 in ([], (h.2, refl, h.1), took.1)
  takes_in_turn [] s f r u g h (x ∷ xs) stands = let took = (consumes_first next s (x ∷ xs) None u stands h.0).0 in cc took
  takes_in_turn (t ∷ ts) s f r u g h [] stands = let took = (consumes_first next s [] (Some t) h.0 stands h.1).0 in cc took
  takes_in_turn (t ∷ ts) s f r u g h (x ∷ xs) stands =
      let took = consumes_first next s (x ∷ xs) (Some t) h.0 stands h.1 in
      let same : t ≡ x = let is = took.0 in cc is in
      ⊎_elim
      (λ k. let more = takes_in_turn ts h.0 k.0 r u g k.2 xs took.1 in (more.0, inl (k.0, subst (λ a. call f a (Ok tt) k.0) same k.1, more.1), more.2))
      (λ k. (xs, inr (k.0, subst (λ a. call f a r g) same k.1, refl), subst (λ v. HasTokens next v xs) (sym k.2) took.1))
      h.2

  pub in_turn : (old : S) (f : F) (r : Result (Unit {0}) E) (new : S) (g : F) → ScansEntry next call old f r new g → (tokens : List Token) → HasTokens next old tokens
      → (rest : List Token) × CallsTokens call tokens f r rest g × HasTokens next new rest
  in_turn old f r new g h = takes_in_turn h.tokens old f r new g h.taken

pub err_not_ok : {V E : Type 0} (r : Result V E) → IsErr r → IsOk r → ⊥
err_not_ok (Ok u) e o = cc
err_not_ok (Err x) e o = cc

module _ {F E : Type 0} (call : F → Token → Result (Unit {0}) E → F → Type 0) where
  -- the last tokens remain, and none without an error
  pub left_of : (tokens : List Token) (f : F) (r : Result (Unit {0}) E) (rest : List Token) (g : F) → CallsTokens call tokens f r rest g
      → (front : List Token) × (tokens ≡ front ++ rest) × (IsOk r → rest ≡ [])
  left_of [] f r rest g h = ([], sym h.1, λ _. h.1)
  left_of (t ∷ ts) f r rest g h =
      ⊎_elim
      (λ k. let more = left_of ts k.0 r rest g k.2 in (t ∷ more.0, ap (λ l. t ∷ l) more.1, more.2))
      (λ k. (t ∷ [], ap (λ l. t ∷ l) (sym k.2), λ ok. absurd (err_not_ok r k.0 ok)))
      h

  pub leaves : {S V : Type 0} (next : S → Option Token → S → Type 0) (old : S) (f : F) (a : Result (Unit {0}) E) (new : S) (g : F)
      → ScansEntry next call old f a new g → (r : Result V E) → (IsOk r → IsOk a)
      → (tokens : List Token) → HasTokens next old tokens → LeavesOf next tokens r new
  leaves next old f a new g h r ok tokens stands =
      let turn = in_turn next call old f a new g h tokens stands in
      let left = left_of tokens f a turn.0 g turn.1 in
      (left.0, turn.0, left.1, (λ is. left.2 (ok is)), turn.2)

-- if an error before is the result, a result that is Ok came without one
pub ok_before : {A B E : Type 0} (P : A → Type 0) (a : Result A E) (r : Result B E) → MatchResult a P (λ e. r ≡ Err e) → IsOk r → IsOk a
ok_before P (Ok x) r h is = refl
ok_before P (Err e) (Ok b) h is = cc
ok_before P (Err e) (Err d) h is = cc
