-- How much of a file was read, and how long the rest takes.
use Rattle.std.specs.Prelude.{◌≡◌, ℕ, ◌*◌, ◌-◌, ◌/◌, ◌^◌, ◌==◌, ◌&&◌, ◌||◌, Bool, not, true, false, min, nat_le, nat_lt, if◌then◌else◌, List, [], ◌∷◌, map, Option, None, Some, refl}
use Rattle.zonetext_lib.specs.declared.progress.ProgressShare.{ProgressShare}

-- a product, or the greatest number of 64 bits
abbrev pub product_64 : ℕ → ℕ → ℕ
product_64 a b = min (a * b) (2 ^ 64 - 1)

-- some octets of a file were read in a number of seconds
abbrev pub progress_share : ℕ → ℕ → ℕ → Option ProgressShare
progress_share read total seconds =
    if (read == 0) || nat_lt total read then None else Some (record { percent = product_64 read 100 / total; seconds_left = product_64 seconds (total - read) / read })

-- three seconds have passed, and another second than the one at which it was shown
abbrev pub is_due : ℕ → ℕ → Bool
is_due seconds shown = nat_le 3 seconds && not (seconds == shown)

-- ---- worked examples: a quarter in 5 seconds, all, nothing, more than all
shares : map (λ read. progress_share read 1000 5) (250 ∷ 999 ∷ 1000 ∷ 0 ∷ 1001 ∷ [])
    ≡ Some (record { percent = 25; seconds_left = 15 }) ∷ Some (record { percent = 99; seconds_left = 0 }) ∷ Some (record { percent = 100; seconds_left = 0 }) ∷ None ∷ None ∷ []
shares = refl

dues : map (λ seconds. is_due seconds 4) (0 ∷ 2 ∷ 3 ∷ 4 ∷ 5 ∷ []) ≡ false ∷ false ∷ true ∷ false ∷ true ∷ []
dues = refl
