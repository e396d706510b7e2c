-- Steps whose blocks nest: what every value states of its document.
use Rattle.std.proofs.Common.{◌≡◌, ℕ, ◌+◌, ◌-◌, ◌==◌, ◌&&◌, nat_lt, Bool, true, false, List, [], ◌∷◌, ◌++◌}
use Rattle.std.specs.List.{flat_map}
use Rattle.dns_zone.specs.Layout.{Step, token, begin, end, comment, newline}

-- after n open blocks, each block that ends has begun, each that begins ends, and line ends are outside blocks
abbrev pub is_nested : ℕ → List Step → Bool
is_nested n [] = n == 0
is_nested n (begin ∷ xs) = is_nested (n + 1) xs
is_nested n (end ∷ xs) = nat_lt 0 n && is_nested (n - 1) xs
is_nested n (newline ∷ xs) = n == 0 && is_nested n xs
is_nested n (token bs ∷ xs) = is_nested n xs
is_nested n (comment bs ∷ xs) = is_nested n xs

-- blocks nest and close, and line ends are outside them
abbrev pub IsNested : List Step → Type 0
IsNested xs = is_nested 0 xs ≡ true

-- the list has a line end
abbrev pub has_line : List Step → Bool
has_line [] = false
has_line (newline ∷ xs) = true
has_line (token bs ∷ xs) = has_line xs
has_line (comment bs ∷ xs) = has_line xs
has_line (begin ∷ xs) = has_line xs
has_line (end ∷ xs) = has_line xs

-- a document with line ends is printed outside blocks alone
abbrev pub Fits : List Step → ℕ → Type 0
Fits xs blocks = has_line xs ≡ true → blocks ≡ 0

-- documents one after another, each with a line end
abbrev pub lines_of : {T : Type 0} → (T → List Step) → List T → List Step
lines_of document xs = flat_map (λ x. document x ++ newline ∷ []) xs

-- a document in a separate block
abbrev pub in_block : List Step → List Step
in_block xs = begin ∷ (xs ++ end ∷ [])
