-- The steps of a document, and the text of each step in the three layouts.
use Rattle.std.specs.Prelude.{ℕ, ◌+◌, ◌-◌, ◌==◌, Bool, true, false, ◌||◌, not, if◌then◌else◌, List, [], ◌∷◌, ◌++◌, length, replicate}
use Rattle.std.specs.List.{list_any}
use Rattle.dns_symbol.specs.Characters.{tab, line_feed, space, open_parenthesis, close_parenthesis, semicolon}

-- one step of a document; a token's and a comment's bytes
pub data Step : Type 0 where
  token : List ℕ → Step
  begin : Step
  end : Step
  comment : List ℕ → Step
  newline : Step

abbrev pub is_token : Step → Bool
is_token (token bs) = true
is_token _ = false

abbrev pub is_begin : Step → Bool
is_begin begin = true
is_begin _ = false

-- tokens, and block marks if they are printed
abbrev pub is_word : Step → Bool
is_word (token bs) = true
is_word begin = true
is_word end = true
is_word _ = false

-- In what follows `past` is the list of steps before one, the last one first.

-- the number of open blocks: the begins less the ends
abbrev pub depth : List Step → ℕ
depth [] = 0
depth (begin ∷ past) = depth past + 1
depth (end ∷ past) = depth past - 1
depth (_ ∷ past) = depth past

-- the steps after the last one that ends a stretch; whether one does may lie in the steps before it
abbrev pub since : (List Step → Step → Bool) → List Step → List Step
since ends [] = []
since ends (x ∷ past) = if ends past x then [] else x ∷ since ends past

-- the text of each step in turn, after the steps of `past`
abbrev pub text_of_steps : (List Step → Step → List ℕ) → List Step → List Step → List ℕ
text_of_steps piece past [] = []
text_of_steps piece past (x ∷ xs) = piece past x ++ text_of_steps piece (x ∷ past) xs

-- the text of a document, where `piece` is what a step prints after others
abbrev pub layout : (List Step → Step → List ℕ) → List Step → List ℕ
layout piece xs = text_of_steps piece [] xs

-- ---- simple

-- a line ends at a line end
abbrev pub ends_line : List Step → Step → Bool
ends_line past newline = true
ends_line past _ = false

-- no token is on the line yet
abbrev pub is_line_start : List Step → Bool
is_line_start past = not (list_any is_token (since ends_line past))

-- the text of a step: a space before each token but a line's first
abbrev pub simple_piece : List Step → Step → List ℕ
simple_piece past (token bs) = (if is_line_start past then [] else space ∷ []) ++ bs
simple_piece past newline = line_feed ∷ []
simple_piece past _ = []

-- ---- tabbed

-- the outermost open block starts at a begin outside blocks
abbrev pub opens_outermost : List Step → Step → Bool
opens_outermost past begin = depth past == 0
opens_outermost past _ = false

-- no token is in the outermost open block yet
abbrev pub is_block_start : List Step → Bool
is_block_start past = not (list_any is_token (since opens_outermost past))

-- the text before a token: none before a line's first, a tab outside blocks and before a block's first, else a space
abbrev pub tabbed_gap : List Step → List ℕ
tabbed_gap past = if is_line_start past then [] else (if depth past == 0 || is_block_start past then tab ∷ [] else space ∷ [])

-- the text of a step
abbrev pub tabbed_piece : List Step → Step → List ℕ
tabbed_piece past (token bs) = tabbed_gap past ++ bs
tabbed_piece past newline = line_feed ∷ []
tabbed_piece past _ = []

-- ---- multiline

-- a block ends at an end
abbrev pub ends_block : List Step → Step → Bool
ends_block past end = true
ends_block past _ = false

-- a comment is shown here: a block has begun since the last end
abbrev pub is_shown : List Step → Bool
is_shown past = list_any is_begin (since ends_block past)

-- a row ends at a line end, and at a comment that is shown
abbrev pub ends_row : List Step → Step → Bool
ends_row past newline = true
ends_row past (comment bs) = is_shown past
ends_row past _ = false

-- no word is on the row yet
abbrev pub is_row_start : List Step → Bool
is_row_start past = not (list_any is_word (since ends_row past))

-- a word with the space before it
abbrev pub word : List Step → List ℕ → List ℕ
word past bs = (if is_row_start past then [] else space ∷ []) ++ bs

-- the text of the words on the row
abbrev pub row : List Step → List ℕ
row [] = []
row (token bs ∷ past) = row past ++ word past bs
row (begin ∷ past) = row past ++ word past (open_parenthesis ∷ [])
row (end ∷ past) = row past ++ word past (close_parenthesis ∷ [])
row (x ∷ past) = if ends_row past x then [] else row past

-- `lead`: the spaces that the row begins with.
-- `indent`: of a comment that is shown here, the width of the last begin, and one.
abbrev mutual
  pub lead : List Step → ℕ
  lead [] = 0
  lead (newline ∷ past) = 0
  lead (comment bs ∷ past) = if is_shown past then indent past else lead past
  lead (_ ∷ past) = lead past

  pub indent : List Step → ℕ
  indent [] = 0
  indent (begin ∷ past) = lead past + length (row (begin ∷ past)) + 1
  indent (_ ∷ past) = indent past

-- the number of bytes on the row, with its spaces
abbrev pub line_width : List Step → ℕ
line_width past = lead past + length (row past)

-- the text between a token and a comment's text
abbrev pub comment_mark : List ℕ
comment_mark = tab ∷ semicolon ∷ space ∷ []

-- a comment, the line end after it, and the spaces of the next row
abbrev pub shown_comment : ℕ → List ℕ → List ℕ
shown_comment spaces bs = comment_mark ++ (bs ++ (line_feed ∷ replicate spaces space))

-- the text of a step: block marks are words, and comments are shown after a begin
abbrev pub multiline_piece : List Step → Step → List ℕ
multiline_piece past (token bs) = word past bs
multiline_piece past begin = word past (open_parenthesis ∷ [])
multiline_piece past end = word past (close_parenthesis ∷ [])
multiline_piece past (comment bs) = if is_shown past then shown_comment (indent past) bs else []
multiline_piece past newline = line_feed ∷ []
