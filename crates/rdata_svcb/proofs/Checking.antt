-- Values of service parameters, step by step.
use Rattle.std.proofs.Common.{◌≡◌, ℕ, ◌+◌, ◌-◌, ◌*◌, ◌<◌, ◌≤◌, List, [], ◌∷◌, ◌++◌, length, take, drop, get_or, IsSome, sym, ap, ◌∙◌, arith, subst, suc}
use Rattle.std.specs.List.{flat_map}
use Rattle.std.proofs.lemmas.List.{take-append-drop, take_rest, length-take-le, drop_at, length-append}
use Rattle.std.proofs.lemmas.List.Elements.{All-cons, All-head, All-tail}
use Rattle.rdata_svcb.specs.Params.{value_at}
use Rattle.rdata_svcb.specs.Values.{AreWireStrings, AreKeys}

-- one holds exactly if the other does
pub record Exactly (P Q : Type 0) : Type 0 where
  pub front : P → Q
  pub back : Q → P

string_front : (n : ℕ) (ys : List ℕ) → 0 < n → n < 256 → n ≤ length ys → AreWireStrings (drop n ys) → AreWireStrings (n ∷ ys)
string_front n ys some small l (strings, each, is) =
    let long : length (take n ys) ≡ n = length-take-le n ys l in (
      take n ys ∷ strings,
      All-cons (λ s. (0 < length s) × (length s < 256)) (take n ys) strings (omega arith, omega arith) each,
      sym (ap (λ m. m ∷ take n ys ++ flat_map (λ s. length s ∷ s) strings) long ∙ ap (λ r. n ∷ take n ys ++ r) (sym is) ∙ ap (λ r. n ∷ r) (take-append-drop n ys)),
    )

pub string_back : (n : ℕ) (ys : List ℕ) → AreWireStrings (n ∷ ys) → (0 < n) × (n ≤ length ys) × AreWireStrings (drop n ys)
string_back n ys ([], each, is) = absurd cc
string_back n ys (s ∷ strings, each, is) =
    let head = All-head (λ s. (0 < length s) × (length s < 256)) s strings each in
    let n_is : n ≡ length s = cc in
    let ys_is : ys ≡ s ++ flat_map (λ s. length s ∷ s) strings = cc in
    let long = ap length ys_is ∙ length-append s (flat_map (λ s. length s ∷ s) strings) in (
      omega (arith, head.0),
      omega arith,
      (
        strings,
        All-tail (λ s. (0 < length s) × (length s < 256)) s strings each,
        ap (drop n) ys_is ∙ drop_at s (flat_map (λ s. length s ∷ s) strings) n (sym n_is),
      ),
    )

-- strings are a string and then strings
pub string_more : (xs : List ℕ) (n k : ℕ) → n ≡ get_or xs 0 0 → k ≡ suc n → k ≤ length xs → 0 < n → n < 256
    → Exactly (AreWireStrings (take (length xs - k) (drop k xs))) (AreWireStrings xs)
string_more [] n k e ek l some small = absurd (omega arith)
string_more (x ∷ ys) n k e ek l some small =
    let rest : take (length (x ∷ ys) - k) (drop k (x ∷ ys)) ≡ drop n ys = take_rest (x ∷ ys) k ∙ ap (λ j. drop j (x ∷ ys)) ek in
    let P : List ℕ → Type 0 = AreWireStrings in
    let Q : ℕ → Type 0 = λ m. AreWireStrings (m ∷ ys) in record {
      front = λ h. subst Q e (string_front n ys some small (omega arith) (subst P rest h));
      back = λ h. subst P (sym rest) (string_back n ys (subst Q (sym e) h)).2;
    }

-- octets that begin with a length of 0 or too great are not strings
pub no_string : (xs : List ℕ) (n : ℕ) → n ≡ get_or xs 0 0 → 0 < length xs → AreWireStrings xs → (0 < n) × (1 + n ≤ length xs)
no_string [] n e l h = absurd (omega arith)
no_string (x ∷ ys) n e l h = let b = string_back x ys h in (omega (arith, b.0), omega (arith, b.1))

-- keys are a key and then keys above it
pub key_more : (params : List (ℕ × List ℕ)) (above key : ℕ) (xs : List ℕ) → 2 ≤ length xs → key ≡ 256 * get_or xs 0 0 + get_or xs 1 0
    → above < key → IsSome (value_at params key) → Exactly (AreKeys params key (take (length xs - 2) (drop 2 xs))) (AreKeys params above xs)
key_more params above key [] l e up some = absurd (omega arith)
key_more params above key (a ∷ []) l e up some = absurd (omega arith)
key_more params above key (a ∷ b ∷ rest) l e up some =
    let rest_is : take (length (a ∷ b ∷ rest) - 2) (drop 2 (a ∷ b ∷ rest)) ≡ rest = take_rest (a ∷ b ∷ rest) 2 in
    let P : List ℕ → Type 0 = λ r. AreKeys params key r in
    let Q : ℕ → Type 0 = λ k. (above < k) × IsSome (value_at params k) × AreKeys params k rest in
    let R : ℕ → Type 0 = λ k. AreKeys params k rest in record {
      front = λ h. subst Q e (up, some, subst P rest_is h);
      back = λ h. subst P (sym rest_is) (subst R (sym e) h.2);
    }

pub chained : (P Q R : Type 0) → Exactly P Q → Exactly Q R → Exactly P R
chained P Q R a b = record { front = λ p. b.front (a.front p); back = λ r. a.back (b.back r) }
