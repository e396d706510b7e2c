-- Which part of the text the end of an entry keeps.
use Rattle.std.proofs.Common.{◌≡◌, Bool, true, false, refl, ap}
use Rattle.std.specs.Prelude.{unwrap_or}
use Rattle.std.proofs.lemmas.Bool.{false≢true}
use Rattle.std.proofs.lemmas.Option.{none-some}
use Rattle.zone_reader.specs.Source.{SourceSeen, parts_after_unread, entry_end}

abbrev with_open : SourceSeen → Bool → SourceSeen
with_open s b = record { began = s.began; is_open = b; taken = s.taken; parts = s.parts }

pub rest_kept : (old new : SourceSeen) → entry_end new ≡ entry_end old → old.is_open ≡ true → (new.is_open ≡ true) × (parts_after_unread new ≡ parts_after_unread old)
rest_kept old new = go new.is_open old.is_open
  where
    go : (b c : Bool) → entry_end (with_open new b) ≡ entry_end (with_open old c) → c ≡ true → (b ≡ true) × (parts_after_unread (with_open new b) ≡ parts_after_unread (with_open old c))
    go true true e h = (refl, ap (λ x. unwrap_or x.behind old.parts) e)
    go false true e h = absurd (none-some _ (ap (λ x. x.behind) e))
    go true false e h = absurd (false≢true h)
    go false false e h = absurd (false≢true h)
