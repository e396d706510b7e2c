-- What is collected, before what follows.
use Rattle.std.proofs.Common.{◌≡◌, ℕ, Bool, true, false, List, [], ◌∷◌, ◌++◌, refl, ap, ◌∙◌}
use Rattle.std.specs.Prelude.{◌||◌, Option, Some, None, Result, option_map}
use Rattle.std.specs.List.{list_any}
use Rattle.dns_lexer.specs.declared.pieces.Fault.{Fault}
use Rattle.dns_lexer.specs.declared.pieces.Piece.{Piece}
use Rattle.dns_lexer.specs.declared.splitting.Collected.{Collected}
use Rattle.dns_lexer.specs.Splitting.{Entries}
use Rattle.dns_lexer.specs.Answer.{entries_of, is_stored, texts}

-- tokens before entries: they begin the first
abbrev pub front : List (List ℕ) → Entries → Entries
front [] e = e
front (t ∷ ts) [] = (t ∷ ts) ∷ []
front (t ∷ ts) (e ∷ es) = ((t ∷ ts) ++ e) ∷ es

-- whole entries and tokens of another, before what follows
abbrev pub glue : {A : Type 0} → Collected A → Option Entries → Option Entries
glue c o = option_map (λ e. entries_of c.found.items ++ front (texts c.entry.items) e) o

map_id : (o : Option Entries) → option_map (λ e. e) o ≡ o
map_id None = refl
map_id (Some e) = refl

-- nothing collected yet
pub nothing_yet : {A : Type 0} (o : Option Entries) (c : Collected A) → c.found.items ≡ [] → c.entry.items ≡ [] → glue c o ≡ o
nothing_yet o c f e = ap (λ es. option_map (λ x. entries_of es ++ front (texts c.entry.items) x) o) f ∙ ap (λ ts. option_map (λ x. front (texts ts) x) o) e ∙ map_id o

or_first : (b c : Bool) → b ≡ true → (b || c) ≡ true
or_first true c h = refl
or_first false c h = cc

or_later : (b c : Bool) → c ≡ true → (b || c) ≡ true
or_later true c h = refl
or_later false c h = h

-- a piece that takes memory is first, or comes later
pub stored_first : (x : Result Piece Fault) (xs : List (Result Piece Fault)) → is_stored x ≡ true → list_any is_stored (x ∷ xs) ≡ true
stored_first x xs h = or_first (is_stored x) (list_any is_stored xs) h

pub stored_later : (x : Result Piece Fault) (xs : List (Result Piece Fault)) → list_any is_stored xs ≡ true → list_any is_stored (x ∷ xs) ≡ true
stored_later x xs h = or_later (is_stored x) (list_any is_stored xs) h
