-- The state machine that reads a zone file, one character after the other.
use Rattle.std.specs.Prelude.{ℕ, zero, suc, ◌+◌, ◌-◌, ◌*◌, Bool, true, false, if◌then◌else◌, ◌&&◌, ◌==◌, nat_le, List, [], ◌∷◌, ◌++◌, Option, Some, None, option_map, option_and_then, encode_utf8}
use Rattle.dns_symbol.specs.Characters.{tab, line_feed, carriage_return, space, double_quote, open_parenthesis, close_parenthesis, semicolon, backslash}
use Rattle.dns_lexer.specs.declared.reader.Mode.{Mode}
use Rattle.dns_lexer.specs.declared.reader.Mode.TheVariants.{Outside, Quoted, Comment, Return, Escape, OneDigit, TwoDigits}
use Rattle.dns_lexer.specs.declared.reader.Act.{Act}
use Rattle.dns_lexer.specs.declared.reader.Act.TheVariants.{EndToken, EndEntry, Add, BeginToken, FinishToken}
use Rattle.dns_lexer.specs.declared.reader.Kind.{Kind}
use Rattle.dns_lexer.specs.declared.reader.Kind.TheVariants.{White, LineFeed, CarriageReturn, Opening, Closing, Semicolon, DoubleQuote, Backslash, Plain}
use Rattle.dns_lexer.specs.declared.reader.Move.{Move}
use Rattle.dns_symbol.specs.Symbol.{is_digit, is_printable}
use Rattle.dns_lexer.specs.Splitting.{with_token, Entries}
use Rattle.dns_lexer.specs.declared.reader.Within.{Within}
use Rattle.dns_lexer.specs.declared.reader.Within.TheVariants.{InWord, InQuote}

-- the class of a character
abbrev pub kind : ℕ → Kind
kind c =
    if c == space then White else (if c == tab then White else (if c == line_feed then LineFeed else (if c == carriage_return then CarriageReturn else (if c == open_parenthesis then Opening else (
    if c == close_parenthesis then Closing else (if c == semicolon then Semicolon else (if c == double_quote then DoubleQuote else (if c == backslash then Backslash else Plain))))))))

-- on to a mode and a depth
abbrev pub move_to : Mode → ℕ → Act → Option Move
move_to m d a = Some (record { mode = m; depth = d; act = a })

-- the mode in which symbols of a quoted string, or of a word, are read
abbrev pub home : Within → Mode
home InQuote = Quoted
home InWord = Outside

-- a line ends, and outside parentheses an entry
abbrev pub line_end : ℕ → Act
line_end zero = EndEntry
line_end (suc _) = EndToken

-- a closing parenthesis, at that depth
abbrev pub close_one : ℕ → Option Move
close_one zero = None
close_one (suc d) = move_to Outside d EndToken

-- between tokens, or in a word
abbrev pub outside_step : ℕ → Kind → Option Move
outside_step d White = move_to Outside d EndToken
outside_step d LineFeed = move_to Outside d (line_end d)
outside_step d CarriageReturn = move_to Return d EndToken
outside_step d Opening = move_to Outside (suc d) EndToken
outside_step d Closing = close_one d
outside_step d Semicolon = move_to Comment d EndToken
outside_step d DoubleQuote = move_to Quoted d BeginToken
outside_step d Backslash = move_to (Escape InWord) d Add
outside_step d Plain = move_to Outside d Add

-- between double quotes: no line end
abbrev pub quoted_step : ℕ → Kind → Option Move
quoted_step d LineFeed = None
quoted_step d CarriageReturn = None
quoted_step d DoubleQuote = move_to Outside d FinishToken
quoted_step d Backslash = move_to (Escape InQuote) d Add
quoted_step d _ = move_to Quoted d Add

-- after a semicolon: all up to the line end
abbrev pub comment_step : ℕ → Kind → Option Move
comment_step d LineFeed = move_to Outside d (line_end d)
comment_step d CarriageReturn = move_to Return d EndToken
comment_step d _ = move_to Comment d EndToken

-- after a CR: nothing but LF
abbrev pub return_step : ℕ → Kind → Option Move
return_step d LineFeed = move_to Outside d (line_end d)
return_step d _ = None

-- one character from a mode at a depth; after a backslash, and after one and two digits, only what can still become an escape
abbrev pub step : Mode → ℕ → ℕ → Option Move
step Outside d c = outside_step d (kind c)
step Quoted d c = quoted_step d (kind c)
step Comment d c = comment_step d (kind c)
step Return d c = return_step d (kind c)
step (Escape q) d c = if is_digit c then (if nat_le c 50 then move_to (OneDigit q (c - 48)) d Add else None) else (if is_printable c then move_to (home q) d Add else None)
step (OneDigit q n) d c = if is_digit c && nat_le (10 * n + (c - 48)) 25 then move_to (TwoDigits q (10 * n + (c - 48))) d Add else None
step (TwoDigits q n) d c = if is_digit c && nat_le (10 * n + (c - 48)) 255 then move_to (home q) d Add else None

-- the text may end here
abbrev pub may_end : Mode → ℕ → Bool
may_end Outside zero = true
may_end Comment zero = true
may_end _ _ = false

-- the open token, if there is one, before the entries that follow
abbrev pub with_open : List ℕ → Entries → Entries
with_open [] e = e
with_open (b ∷ bs) e = with_token (b ∷ bs) e

-- the entries from the open token on, with the character's part done, where k has those that follow
abbrev pub after : Act → ℕ → List ℕ → (List ℕ → Option Entries) → Option Entries
after EndToken c t k = option_map (with_open t) (k [])
after EndEntry c t k = option_map (λ e. with_open t ([] ∷ e)) (k [])
after Add c t k = k (t ++ encode_utf8 c)
after BeginToken c t k = option_map (with_open t) (k (encode_utf8 c))
after FinishToken c t k = option_map (with_open (t ++ encode_utf8 c)) (k [])

-- the entries of what follows, if the token has begun with these bytes
abbrev pub read : Mode → ℕ → List ℕ → List ℕ → Option Entries
read m d t [] = if may_end m d then Some (with_open t ([] ∷ [])) else None
read m d t (c ∷ cs) = option_and_then (λ v. after v.act c t (λ u. read v.mode v.depth u cs)) (step m d c)
