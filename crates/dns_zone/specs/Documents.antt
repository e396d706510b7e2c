-- Documents: the steps of a list of items, and the lists that are well-formed.
use Rattle.std.specs.Prelude.{◌≡◌, ◌<◌, ℕ, true, ◌⊎◌, List, [], ◌∷◌, ◌++◌, length, map, codes, encode_utf8_all, ⊤}
use Rattle.std.specs.List.{list_all, AllByRecursion}
use Rattle.std.specs.Fmt.{decimal}
use Rattle.std.specs.String.{string_bytes}
use Rattle.dns_zone.specs.Layout.{Step, token, begin, end, comment, newline, depth}
use Rattle.dns_zone.specs.Nesting.{IsNested}
use Rattle.dns_lexer.specs.Lexeme.{is_note_char}
use Rattle.dns_lexer.specs.Token.{IsToken}
use Rattle.dns_zone.specs.declared.document.Item.{Item}
use Rattle.dns_zone.specs.declared.document.Item.TheVariants.{Token, Begin, End, Comment, Newline}
use Rattle.dns_zone.specs.declared.error.DocumentError.{DocumentError}
use Rattle.dns_zone.specs.declared.error.DocumentError.TheVariants.{BadToken, BadComment, EndWithoutBegin, LineInBlock, OpenBlock}

-- the step that an item is
abbrev pub item_step : {A : Type 0} → Item A → Step
item_step (Token text) = token (string_bytes text)
item_step Begin = begin
item_step End = end
item_step (Comment text) = comment (string_bytes text)
item_step Newline = newline

-- the steps that items are
abbrev pub item_steps : {A : Type 0} → List (Item A) → List Step
item_steps items = map item_step items

-- characters without LF and CR
pub record IsCommentText (text : List ℕ) : Type 0 where
  pub characters : List ℕ
  pub plain : list_all is_note_char characters ≡ true
  pub spelled : encode_utf8_all characters ≡ text

-- a token is a word or a quoted string, and a comment has no LF and no CR; other steps are always proper
abbrev pub IsProper : Step → Type 0
IsProper (token text) = IsToken text
IsProper (comment text) = IsCommentText text
IsProper begin = ⊤
IsProper end = ⊤
IsProper newline = ⊤

-- blocks nest and close, line ends are outside them, and each token and comment is valid
abbrev pub IsWellFormed : List Step → Type 0
IsWellFormed xs = IsNested xs × AllByRecursion IsProper xs

-- the error of a step after the steps of `past`; its index is their number
abbrev pub IsDocumentFault : List Step → Step → DocumentError → Type 0
IsDocumentFault past (token text) e = (e ≡ BadToken (length past)) × ¬ IsToken text
IsDocumentFault past (comment text) e = (e ≡ BadComment (length past)) × ¬ IsCommentText text
IsDocumentFault past begin e = ⊥
IsDocumentFault past end e = (e ≡ EndWithoutBegin (length past)) × (depth past ≡ 0)
IsDocumentFault past newline e = (e ≡ LineInBlock (length past)) × (0 < depth past)

-- nothing is wrong with a step
abbrev pub ItemHasNoFault : List Step → Step → Type 0
ItemHasNoFault past x = (e : DocumentError) → ¬ IsDocumentFault past x e

-- the first error after the steps of `past`: the next step's, or else the first one after it; an open block comes last
abbrev pub IsFirstFault : List Step → List Step → DocumentError → Type 0
IsFirstFault past [] e = (e ≡ OpenBlock) × (0 < depth past)
IsFirstFault past (x ∷ xs) e = IsDocumentFault past x e ⊎ (ItemHasNoFault past x × IsFirstFault (x ∷ past) xs e)

-- the first error of a list of steps
abbrev pub IsFaultIn : List Step → DocumentError → Type 0
IsFaultIn xs e = IsFirstFault [] xs e

-- a list of steps has none
abbrev pub HasNoFault : List Step → Type 0
HasNoFault xs = (e : DocumentError) → ¬ IsFaultIn xs e

-- a step's error after any `place` steps with `blocks` open blocks
abbrev pub IsFaultAt : ℕ → ℕ → Step → DocumentError → Type 0
IsFaultAt place blocks x e = (past : List Step) → length past ≡ place → depth past ≡ blocks → IsDocumentFault past x e

-- the text of an error
abbrev pub fault_text : DocumentError → List ℕ
fault_text (BadToken i) = codes "bad token at " ++ decimal i
fault_text (BadComment i) = codes "bad comment at " ++ decimal i
fault_text (EndWithoutBegin i) = codes "end without begin at " ++ decimal i
fault_text (LineInBlock i) = codes "line end in block at " ++ decimal i
fault_text OpenBlock = codes "open block"
