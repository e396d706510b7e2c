-- The entries that a text splits into, by concatenation of lexemes.
use Rattle.std.specs.Prelude.{◌≡◌, ◌↔◌, ℕ, zero, suc, Bool, true, false, ◌&&◌, not, List, [], ◌∷◌}
use Rattle.std.specs.List.{flat_map}
use Rattle.dns_lexer.specs.Lexeme.{Lexeme, Blank, Line, Open, Close, Note, Word, Quote, lexeme_bytes, is_lexeme}

-- no word directly follows a word, and a note is last or directly before a line
abbrev pub may_precede : Lexeme → List Lexeme → Bool
may_precede (Word _ _) (Word _ _ ∷ _) = false
may_precede (Note _) [] = true
may_precede (Note _) (Line _ ∷ _) = true
may_precede (Note _) (_ ∷ _) = false
may_precede _ _ = true

-- each lexeme contains only what is allowed in it, and may precede those after it
abbrev pub are_lexemes : List Lexeme → Bool
are_lexemes [] = true
are_lexemes (l ∷ ls) = is_lexeme l && may_precede l ls && are_lexemes ls

-- the parentheses nest and close, from a depth of open ones
abbrev pub nests : ℕ → List Lexeme → Bool
nests depth (Open ∷ ls) = nests (suc depth) ls
nests zero (Close ∷ ls) = false
nests (suc depth) (Close ∷ ls) = nests depth ls
nests depth (_ ∷ ls) = nests depth ls
nests zero [] = true
nests (suc depth) [] = false

-- entries, each a list of tokens
abbrev pub Entries : Type 0
Entries = List (List (List ℕ))

-- the entries with one more token before the first one's
abbrev pub with_token : List ℕ → Entries → Entries
with_token t [] = (t ∷ []) ∷ []
with_token t (e ∷ es) = (t ∷ e) ∷ es

-- the bytes of the words and quotes, cut at each line end outside parentheses
abbrev pub entries : ℕ → List Lexeme → Entries
entries depth [] = [] ∷ []
entries depth (Open ∷ ls) = entries (suc depth) ls
entries zero (Line _ ∷ ls) = [] ∷ entries zero ls
entries (suc depth) (Close ∷ ls) = entries depth ls
entries depth (Word s ss ∷ ls) = with_token (lexeme_bytes (Word s ss)) (entries depth ls)
entries depth (Quote ss ∷ ls) = with_token (lexeme_bytes (Quote ss)) (entries depth ls)
entries depth (_ ∷ ls) = entries depth ls

-- the text splits into the entries
pub record Splits (text : List ℕ) (found : Entries) : Type 0 where
  pub lexemes : List Lexeme
  pub spelled : flat_map lexeme_bytes lexemes ≡ text
  pub valid : are_lexemes lexemes ≡ true
  pub nested : nests 0 lexemes ≡ true
  pub cut : entries 0 lexemes ≡ found

-- it splits into these entries and into nothing else
abbrev pub SplitsOnlyInto : List ℕ → Entries → Type 0
SplitsOnlyInto text found = (e : Entries) → (Splits text e ↔ (e ≡ found))

-- no parentheses are open
abbrev pub is_outside : ℕ → Bool
is_outside zero = true
is_outside (suc _) = false

-- no blank at the beginning of a line outside parentheses: here, if starts, and after each line end
abbrev pub is_tight : Bool → ℕ → List Lexeme → Bool
is_tight starts depth [] = true
is_tight starts depth (Open ∷ ls) = is_tight false (suc depth) ls
is_tight starts depth (Blank _ ∷ ls) = not starts && is_tight false depth ls
is_tight starts depth (Line _ ∷ ls) = is_tight (is_outside depth) depth ls
is_tight starts (suc depth) (Close ∷ ls) = is_tight false depth ls
is_tight starts depth (_ ∷ ls) = is_tight false depth ls

-- however it is spelled, neither the text nor what follows a line outside parentheses begins with a blank
abbrev pub BeginsNoBlank : List ℕ → Type 0
BeginsNoBlank text = (ls : List Lexeme) → flat_map lexeme_bytes ls ≡ text → are_lexemes ls ≡ true → nests 0 ls ≡ true → is_tight true 0 ls ≡ true
