-- The blocks of windows one after another.
use Rattle.std.proofs.Common.{◌≡◌, ◌≢◌, ℕ, ◌+◌, ◌-◌, ◌<◌, ◌≤◌, ◌⊎◌, List, [], ◌∷◌, ◌++◌, length, refl, sym, ap, ◌∙◌, arith, zero, suc, inl, inr, append_assoc, append-nil}
use Rattle.rdata_values.specs.Bitmap.{window_block, window_blocks}

pub blocks_none : (f : ℕ → List ℕ) (w : ℕ) → window_blocks f w 0 ≡ []
unfolding window_blocks
blocks_none f w = refl

pub blocks_first : (f : ℕ → List ℕ) (w n : ℕ) → window_blocks f w (suc n) ≡ window_block w (f w) ++ window_blocks f (w + 1) n
unfolding window_blocks
blocks_first f w n = refl

-- those of the first windows, and then those of the others
pub blocks_split : (f : ℕ → List ℕ) (w m n : ℕ) → window_blocks f w (m + n) ≡ window_blocks f w m ++ window_blocks f (w + m) n
blocks_split f w zero n = ap (window_blocks f w) (omega arith) ∙ ap (λ v. window_blocks f v n) (omega arith) ∙ ap (λ xs. xs ++ window_blocks f (w + zero) n) (sym (blocks_none f w))
blocks_split f w (suc m) n =
    ap (window_blocks f w) (omega arith) ∙ blocks_first f w (m + n) ∙ ap (λ xs. window_block w (f w) ++ xs) (blocks_split f (w + 1) m n)
    ∙ sym (append_assoc (window_block w (f w)) (window_blocks f (w + 1) m) (window_blocks f (w + 1 + m) n))
    ∙ ap (λ v. (window_block w (f w) ++ window_blocks f (w + 1) m) ++ window_blocks f v n) (omega arith)
    ∙ ap (λ xs. xs ++ window_blocks f (w + suc m) n) (sym (blocks_first f w m))

-- blocks of the same octets
pub blocks_same : (f g : ℕ → List ℕ) (w n : ℕ) → ((v : ℕ) → w ≤ v → v < w + n → f v ≡ g v) → window_blocks f w n ≡ window_blocks g w n
blocks_same f g w zero h = blocks_none f w ∙ sym (blocks_none g w)
blocks_same f g w (suc n) h =
    let e : f w ≡ g w = h w (omega arith) (omega arith) in
    let r = blocks_same f g (w + 1) n (λ v low high. h v (omega arith) (omega arith)) in
    blocks_first f w n ∙ ap (λ x. window_block w x ++ window_blocks f (w + 1) n) e ∙ ap (λ xs. window_block w (g w) ++ xs) r ∙ sym (blocks_first g w n)

-- windows with no octets have no blocks
pub blocks_empty : (f : ℕ → List ℕ) (w n : ℕ) → ((v : ℕ) → w ≤ v → v < w + n → f v ≡ []) → window_blocks f w n ≡ []
blocks_empty f w zero h = blocks_none f w
blocks_empty f w (suc n) h =
    blocks_first f w n ∙ ap (λ x. window_block w x ++ window_blocks f (w + 1) n) (h w (omega arith) (omega arith))
    ∙ blocks_empty f (w + 1) n (λ v low high. h v (omega arith) (omega arith))

-- the first of the blocks: its window a, and the blocks after it
pub record BeginsAt (f : ℕ → List ℕ) (w n : ℕ) (octets : List ℕ) (a : ℕ) : Type 0 where
  pub low : w ≤ a
  pub high : a < w + n
  pub some : f a ≢ []
  pub octets_are : octets ≡ a ∷ length (f a) ∷ f a ++ window_blocks f (a + 1) (w + n - (a + 1))

abbrev pub Begins : (ℕ → List ℕ) → ℕ → ℕ → List ℕ → Type 0
Begins f w n octets = (octets ≡ []) ⊎ ((a : ℕ) × BeginsAt f w n octets a)

pub begins_here : (f : ℕ → List ℕ) (w n : ℕ) (x : List ℕ) → f w ≡ x → x ≢ [] → BeginsAt f w (suc n) (window_blocks f w (suc n)) w
begins_here f w n [] e ne = absurd (ne refl)
begins_here f w n (y ∷ ys) e ne = record {
  low = omega arith;
  high = omega arith;
  some = λ z. ne (sym e ∙ z);
  octets_are =
      blocks_first f w n ∙ ap (λ x. window_block w x ++ window_blocks f (w + 1) n) e
      ∙ ap (λ m. (w ∷ length (y ∷ ys) ∷ y ∷ ys) ++ window_blocks f (w + 1) m) (omega arith)
      ∙ ap (λ x. w ∷ length x ∷ x ++ window_blocks f (w + 1) (w + suc n - (w + 1))) (sym e);
}

begins_later : (f : ℕ → List ℕ) (w n : ℕ) → f w ≡ [] → Begins f (w + 1) n (window_blocks f (w + 1) n) → Begins f w (suc n) (window_blocks f w (suc n))
begins_later f w n e (inl none) = inl (blocks_first f w n ∙ ap (λ x. window_block w x ++ window_blocks f (w + 1) n) e ∙ none)
begins_later f w n e (inr (a, b)) = inr (
  a,
  record {
    low = omega (arith, b.low);
    high = omega (arith, b.high);
    some = b.some;
    octets_are = blocks_first f w n ∙ ap (λ x. window_block w x ++ window_blocks f (w + 1) n) e ∙ b.octets_are
        ∙ ap (λ m. a ∷ length (f a) ∷ f a ++ window_blocks f (a + 1) m) (omega arith);
  },
)

begins_by : (f : ℕ → List ℕ) (w n : ℕ) (x : List ℕ) → f w ≡ x → Begins f (w + 1) n (window_blocks f (w + 1) n) → Begins f w (suc n) (window_blocks f w (suc n))
begins_by f w n [] e rest = begins_later f w n e rest
begins_by f w n (y ∷ ys) e rest = inr (w, begins_here f w n (y ∷ ys) e (λ z. cc))

pub begins : (f : ℕ → List ℕ) (w n : ℕ) → Begins f w n (window_blocks f w n)
begins f w zero = inl (blocks_none f w)
begins f w (suc n) = begins_by f w n (f w) refl (begins f (w + 1) n)

pub blocks_last : (f : ℕ → List ℕ) (n : ℕ) → window_blocks f 0 n ++ window_block n (f n) ≡ window_blocks f 0 (n + 1)
blocks_last f n =
    ap (λ xs. window_blocks f 0 n ++ xs) (sym (blocks_first f n 0 ∙ ap (λ xs. window_block n (f n) ++ xs) (blocks_none f (n + 1)) ∙ append-nil (window_block n (f n))))
    ∙ ap (λ w. window_blocks f 0 n ++ window_blocks f w 1) (omega arith) ∙ sym (blocks_split f 0 n 1)
