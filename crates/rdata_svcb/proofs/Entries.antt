-- Parameters one after another.
use Rattle.std.proofs.Common.{◌≡◌, ◌≢◌, ℕ, ◌+◌, ◌-◌, ◌<◌, ◌≤◌, ◌⊎◌, cond, List, [], ◌∷◌, ◌++◌, All, Option, None, Some, refl, sym, ap, ◌∙◌, arith, zero, suc, append_assoc, append-nil}
use Rattle.std.proofs.lemmas.List.Elements.{All-weaker, All-head, All-tail}
use Rattle.std.proofs.lemmas.Bool.{eq-eqb, ne_eqb}
use Rattle.rdata_svcb.specs.Params.{param, param_if, params_from, value_at}

pub value_none : (ps : List (ℕ × List ℕ)) (key : ℕ) → All (λ q. q.0 ≢ key) ps → value_at ps key ≡ None
value_none [] key h = refl
value_none (q ∷ qs) key h =
    ap (λ b. cond b (Some q.1) (value_at qs key)) (ne_eqb q.0 key (All-head (λ q. q.0 ≢ key) q qs h)) ∙ value_none qs key (All-tail (λ q. q.0 ≢ key) q qs h)

-- the value of a key that was not there
pub value_new : (ps : List (ℕ × List ℕ)) (p : ℕ × List ℕ) → All (λ q. q.0 ≢ p.0) ps → value_at (ps ++ p ∷ []) p.0 ≡ Some p.1
value_new [] p h = ap (λ b. cond b (Some p.1) None) (eq-eqb p.0 p.0 refl)
value_new (q ∷ qs) p h =
    ap (λ b. cond b (Some q.1) (value_at (qs ++ p ∷ []) p.0)) (ne_eqb q.0 p.0 (All-head (λ r. r.0 ≢ p.0) q qs h)) ∙ value_new qs p (All-tail (λ r. r.0 ≢ p.0) q qs h)

pub entries_none : (f : ℕ → Option (List ℕ)) (w : ℕ) → params_from f w 0 ≡ []
unfolding params_from
entries_none f w = refl

pub entries_first : (f : ℕ → Option (List ℕ)) (w n : ℕ) → params_from f w (suc n) ≡ param_if w (f w) ++ params_from f (w + 1) n
unfolding params_from
entries_first f w n = refl

pub entries_split : (f : ℕ → Option (List ℕ)) (w m n : ℕ) → params_from f w (m + n) ≡ params_from f w m ++ params_from f (w + m) n
entries_split f w zero n = ap (params_from f w) (omega arith) ∙ ap (λ v. params_from f v n) (omega arith) ∙ ap (λ xs. xs ++ params_from f (w + zero) n) (sym (entries_none f w))
entries_split f w (suc m) n =
    ap (params_from f w) (omega arith) ∙ entries_first f w (m + n) ∙ ap (λ xs. param_if w (f w) ++ xs) (entries_split f (w + 1) m n)
    ∙ sym (append_assoc (param_if w (f w)) (params_from f (w + 1) m) (params_from f (w + 1 + m) n))
    ∙ ap (λ v. (param_if w (f w) ++ params_from f (w + 1) m) ++ params_from f v n) (omega arith)
    ∙ ap (λ xs. xs ++ params_from f (w + suc m) n) (sym (entries_first f w m))

pub entries_same : (f g : ℕ → Option (List ℕ)) (w n : ℕ) → ((v : ℕ) → w ≤ v → v < w + n → f v ≡ g v) → params_from f w n ≡ params_from g w n
entries_same f g w zero h = entries_none f w ∙ sym (entries_none g w)
entries_same f g w (suc n) h =
    let e : f w ≡ g w = h w (omega arith) (omega arith) in
    let r = entries_same f g (w + 1) n (λ v low high. h v (omega arith) (omega arith)) in
    entries_first f w n ∙ ap (λ x. param_if w x ++ params_from f (w + 1) n) e ∙ ap (λ xs. param_if w (g w) ++ xs) r ∙ sym (entries_first g w n)

pub entries_empty : (f : ℕ → Option (List ℕ)) (w n : ℕ) → ((v : ℕ) → w ≤ v → v < w + n → f v ≡ None) → params_from f w n ≡ []
entries_empty f w zero h = entries_none f w
entries_empty f w (suc n) h =
    entries_first f w n ∙ ap (λ x. param_if w x ++ params_from f (w + 1) n) (h w (omega arith) (omega arith))
    ∙ entries_empty f (w + 1) n (λ v low high. h v (omega arith) (omega arith))

pub entries_last : (f : ℕ → Option (List ℕ)) (n : ℕ) → params_from f 0 n ++ param_if n (f n) ≡ params_from f 0 (n + 1)
entries_last f n =
    ap (λ xs. params_from f 0 n ++ xs) (sym (entries_first f n 0 ∙ ap (λ xs. param_if n (f n) ++ xs) (entries_none f (n + 1)) ∙ append-nil (param_if n (f n))))
    ∙ ap (λ w. params_from f 0 n ++ params_from f w 1) (omega arith) ∙ sym (entries_split f 0 n 1)

-- keys without a value have no octets
pub keys_skipped : (ps : List (ℕ × List ℕ)) (a b : ℕ) → a ≤ b → All (λ p. (p.0 < a) ⊎ (b ≤ p.0)) ps
    → params_from (value_at ps) 0 b ≡ params_from (value_at ps) 0 a
keys_skipped ps a b l h =
    ap (params_from (value_at ps) 0) (omega arith) ∙ entries_split (value_at ps) 0 a (b - a)
    ∙ ap (λ xs. params_from (value_at ps) 0 a ++ xs) (entries_empty (value_at ps) (0 + a) (b - a) (λ v low high.
    value_none ps v (All-weaker (λ p. (p.0 < a) ⊎ (b ≤ p.0)) (λ p. p.0 ≢ v) (λ p e same. omega arith) ps h)))
    ∙ append-nil (params_from (value_at ps) 0 a)

pub entries_more : (f : ℕ → Option (List ℕ)) (n : ℕ) (v : List ℕ) → f n ≡ Some v → params_from f 0 n ++ param n v ≡ params_from f 0 (n + 1)
entries_more f n v e = ap (λ x. params_from f 0 n ++ param_if n x) (sym e) ∙ entries_last f n
