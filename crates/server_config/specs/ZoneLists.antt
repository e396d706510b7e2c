-- A line of a list of zones: a zone and its file, with blanks between.
use Rattle.std.specs.Prelude.{ℕ, suc, ◌+◌, Bool, ◌||◌, ◌==◌, if◌then◌else◌, List, [], ◌∷◌, drop}
use Rattle.server_config.specs.declared.zone_list.ListLine.{ListLine}
use Rattle.server_config.specs.declared.zone_list.ListLine.TheVariants.{Blank, Entry, NoFile, Trailing}
use Rattle.server_config.specs.declared.zone_name.TextSpan.{TextSpan}

-- a space, a tab or a carriage return
abbrev pub is_list_blank : ℕ → Bool
is_list_blank c = (c == 32) || (c == 9) || (c == 13)

-- how many blanks, and how many other octets, a text begins with
abbrev pub list_blank_len : List ℕ → ℕ
list_blank_len [] = 0
list_blank_len (c ∷ text) = if is_list_blank c then suc (list_blank_len text) else 0

abbrev pub list_word_len : List ℕ → ℕ
list_word_len [] = 0
list_word_len (c ∷ text) = if is_list_blank c then 0 else suc (list_word_len text)

-- the first word at an offset or after it: it is empty if there is none
abbrev pub word_begin : List ℕ → ℕ → ℕ
word_begin line from = from + list_blank_len (drop from line)

abbrev pub list_word : List ℕ → ℕ → TextSpan
list_word line from = record { at = word_begin line from; end = word_begin line from + list_word_len (drop (word_begin line from) line) }

abbrev pub is_no_word : TextSpan → Bool
is_no_word word = word.at == word.end

-- the first three words decide
abbrev pub line_of_words : TextSpan → TextSpan → TextSpan → ListLine
line_of_words zone file third =
    if is_no_word zone then Blank
    else (if is_no_word file then NoFile zone
    else (if is_no_word third then Entry zone file else Trailing third))

abbrev pub list_line : List ℕ → ListLine
list_line line = line_of_words (list_word line 0) (list_word line (list_word line 0).end) (list_word line (list_word line (list_word line 0).end).end)
