-- A text that is counted, or written over octets, part by part.
use Rattle.std.proofs.Common.{ℕ, ◌≡◌, ◌+◌, ◌-◌, ◌≤◌, List, [], ◌∷◌, ◌++◌, length, take, drop, refl, sym, ap, subst, ◌∙◌, arith, length-append, append-nil, append_assoc, drop-drop, take_all, Result, Ok, Err}
use Rattle.std.specs.Prelude.{OnOk}
use Rattle.std.proofs.lemmas.List.{drop_all, length-drop, length-take-le}
use Rattle.std.proofs.Math.Seq.{take-append-add}
use Rattle.std.specs.Fmt.{WritesInCalls}
use Rattle.std.specs.List.{FoldsTo, concat}
use Rattle.c_calls.specs.DataText.{PutsAt}

module _ {S : Type 0} (took : S → List ℕ → S → Type 0) (count : S → ℕ) (adds : (s : S) (octets : List ℕ) (t : S) → took s octets t → count t ≡ count s + length octets) where
  counted_parts : (s : S) (parts : List (List ℕ)) (t : S) → FoldsTo took s parts t → count t ≡ count s + length (concat parts)
  counted_parts s [] t same = let is : count t ≡ count s = ap count (sym same) in omega (arith, is)
  counted_parts s (x ∷ xs) t calls =
      let more = counted_parts calls.0 xs t calls.2 in
      let first = adds s x calls.0 calls.1 in
      omega (arith, more, first, length-append x (concat xs))

  pub counted_text : (s : S) (text : List ℕ) (t : S) → WritesInCalls took s text t → count t ≡ count s + length text
  counted_text s text t calls = counted_parts s calls.parts t calls.calls ∙ ap (λ l. count s + length l) calls.whole

-- nothing is written
puts_none : (at : ℕ) (octets : List ℕ) → at ≤ length octets → PutsAt [] at octets octets
puts_none at octets h =
    let same : at + 0 ≡ at = omega arith in
    record { fits = omega (arith, h); put = ap (λ n. take n octets) same ∙ sym (append-nil (take at octets)); rest = refl; same = refl }

-- one text after the other
pub puts_both : (a b : List ℕ) (at : ℕ) (x y z : List ℕ) → PutsAt a at x y → PutsAt b (at + length a) y z → PutsAt (a ++ b) at x z
puts_both a b at x y z p q =
    let long = length-append a b in
    let far : at + length a + length b ≡ at + length (a ++ b) = omega (arith, long) in
    record {
      fits = omega (arith, q.fits, p.same, long);
      put = ap (λ n. take n z) (sym far) ∙ q.put ∙ ap (λ l. l ++ b) p.put ∙ append_assoc (take at x) a b;
      rest = ap (λ n. drop n z) (sym far) ∙ q.rest ∙ sym (drop-drop (length b) (at + length a) y) ∙ ap (drop (length b)) p.rest ∙ drop-drop (length b) (at + length a) x ∙ ap (λ n. drop n x) far;
      same = q.same ∙ p.same;
    }

module _ {S N : Type 0} (took : S → List ℕ → S → Type 0) (name : S → N) (count : S → ℕ) (held : S → List ℕ)
    (puts : (s : S) (octets : List ℕ) (t : S) → took s octets t → (name t ≡ name s) × (count t ≡ count s + length octets) × PutsAt octets (count s) (held s) (held t)) where
  put_parts : (s : S) (parts : List (List ℕ)) (t : S) → count s ≤ length (held s) → FoldsTo took s parts t → (name t ≡ name s) × PutsAt (concat parts) (count s) (held s) (held t)
  put_parts s [] t h same = (ap name (sym same), subst (λ u. PutsAt [] (count s) (held s) (held u)) same (puts_none (count s) (held s) h))
  put_parts s (x ∷ xs) t h calls =
      let first = puts s x calls.0 calls.1 in
      let few : count calls.0 ≤ length (held calls.0) = omega (arith, first.1, first.2.fits, first.2.same) in
      let more = put_parts calls.0 xs t few calls.2 in (
        more.0 ∙ first.0,
        puts_both x (concat xs) (count s) (held s) (held calls.0) (held t) first.2 (subst (λ n. PutsAt (concat xs) n (held calls.0) (held t)) first.1 more.1),
      )

  pub put_text : (s : S) (text : List ℕ) (t : S) → count s ≤ length (held s) → WritesInCalls took s text t → (name t ≡ name s) × PutsAt text (count s) (held s) (held t)
  put_text s text t h calls = let p = put_parts s calls.parts t h calls.calls in (p.0, subst (λ l. PutsAt l (count s) (held s) (held t)) calls.whole p.1)

  -- the octets that were written in the end
  pub put_back : (s : S) (text : List ℕ) (t : S) → WritesInCalls took s text t → count s ≤ length (held s) → (end : List ℕ) → (name t ≡ name s → end ≡ held t) → PutsAt text (count s) (held s) end
  put_back s text t calls h end back = let p = put_text s text t h calls in subst (PutsAt text (count s) (held s)) (sym (back p.0)) p.1

pub on_ok : {A E P Q : Type 0} (r : Result A E) → OnOk r P → (P → Q) → OnOk r Q
on_ok (Ok x) p f = f p
on_ok (Err e) p f = tt

after_front : (xs ys : List ℕ) → drop (length xs) (xs ++ ys) ≡ ys
after_front [] ys = refl
after_front (x ∷ xs) ys = after_front xs ys

-- octets are written over the start of the rest from an offset on
pub puts_part : (octets over part : List ℕ) (at : ℕ) → at ≤ length over → length octets ≤ length over - at → take (length octets) part ≡ octets
    → drop (length octets) part ≡ drop (length octets) (take (length over - at) (drop at over)) → length part ≡ length (take (length over - at) (drop at over))
    → PutsAt octets at over (take at over ++ (part ++ drop (length over - at) (drop at over)))
puts_part octets over part at within room put rest same =
    let n : ℕ = length octets in
    let left : length (drop at over) ≡ length over - at = length-drop at over in
    let none : drop (length over - at) (drop at over) ≡ [] = drop_all (length over - at) (drop at over) (omega (arith, left)) in
    let all : take (length over - at) (drop at over) ≡ drop at over = take_all (length over - at) (drop at over) (omega (arith, left)) in
    let front : length (take at over) ≡ at = length-take-le at over within in
    let is : take at over ++ part ≡ take at over ++ (part ++ drop (length over - at) (drop at over)) = ap (λ l. take at over ++ l) (sym (append-nil part) ∙ ap (λ l. part ++ l) (sym none)) in
    let behind : drop at (take at over ++ part) ≡ part = ap (λ k. drop k (take at over ++ part)) (sym front) ∙ after_front (take at over) part in
    let long : length part ≡ length over - at = same ∙ ap length all ∙ left in
    subst (PutsAt octets at over) is
    (record {
      fits = omega (arith, within, room);
      put = ap (λ k. take (k + n) (take at over ++ part)) (sym front) ∙ take-append-add (take at over) part n ∙ ap (λ l. take at over ++ l) put;
      rest = sym (drop-drop n at (take at over ++ part)) ∙ ap (drop n) behind ∙ rest ∙ ap (drop n) all ∙ drop-drop n at over;
      same = omega (arith, length-append (take at over) part, front, long, within);
    })
