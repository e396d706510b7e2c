-- A directive: a range, an owner, a TTL, a class, a type and RDATA; and its entries.
use Rattle.std.specs.Prelude.{ℕ, ◌+◌, Bool, false, ◌||◌, if◌then◌else◌, List, [], ◌∷◌, ◌++◌, map, take, drop, codes, Result, Ok, Err}
use Rattle.std.specs.List.{flat_map}
use Rattle.std.specs.Char.{is_digit}
use Rattle.dns_octets.specs.Lowered.{same_lowered}
use Rattle.dns_lexer.specs.EntryTokens.{TokenSeen}
use Rattle.dns_lexer.specs.declared.entry_tokens.EntryToken.{EntryToken}
use Rattle.dns_symbol.specs.Characters.{line_feed, space}
use Rattle.zone_generate.specs.Parts.{side_parts, side_text}
use Rattle.zone_generate.specs.Ranges.{range_of}
use Rattle.zone_generate.specs.declared.error.GenerateError.{GenerateError}
use Rattle.zone_generate.specs.declared.error.GenerateErrorKind.{GenerateErrorKind}
use Rattle.zone_generate.specs.declared.error.GenerateErrorKind.TheVariants.{MissingToken, QuotedToken, TrailingToken}
use Rattle.zone_generate.specs.declared.part.Part.{Part}
use Rattle.zone_generate.specs.declared.range.GenerateRange.{GenerateRange}
use Rattle.zone_generate.specs.declared.side.SideError.{SideError}

-- a directive: its range, the parts of its owner, the words up to its type, and the parts of its RDATA
pub record Generating : Type 0 where
  pub range : GenerateRange
  pub owner : List Part
  pub words : List (List ℕ)
  pub rdata : List Part

-- an error of a whole token, or of an entry's end
abbrev pub error_at_token : ℕ → GenerateErrorKind → GenerateError
error_at_token at kind = record { at = at; offset = 0; kind = kind }

abbrev pub range_at : ℕ → Result GenerateRange GenerateErrorKind → Result GenerateRange GenerateError
range_at at (Ok range) = Ok range
range_at at (Err kind) = Err (error_at_token at kind)

abbrev pub parts_in_token : ℕ → Result (List Part) SideError → Result (List Part) GenerateError
parts_in_token at (Ok parts) = Ok parts
parts_in_token at (Err e) = Err (record { at = at; offset = e.offset; kind = e.kind })

-- the range of a token
abbrev pub token_range : ℕ → TokenSeen → Result GenerateRange GenerateError
token_range most t = if t.is_quoted then Err (error_at_token t.at QuotedToken) else range_at t.at (range_of most t.text)

-- the parts of a token, for numbers up to the last
abbrev pub token_side : ℕ → TokenSeen → Result (List Part) GenerateError
token_side last t = parts_in_token t.at (side_parts last t.is_quoted t.text)

abbrev pub token_owner : ℕ → TokenSeen → Result (List Part) GenerateError
token_owner last t = if t.is_quoted then Err (error_at_token t.at QuotedToken) else token_side last t

-- a class: `IN`, `CH`, `HS`, or a word that begins with `CLASS`
abbrev pub is_class_word : List ℕ → Bool
is_class_word word = same_lowered word (codes "IN") || same_lowered word (codes "CH") || same_lowered word (codes "HS") || same_lowered (take 5 word) (codes "CLASS")

-- a TTL begins with a digit
abbrev pub is_ttl_or_class_word : List ℕ → Bool
is_ttl_or_class_word [] = false
is_ttl_or_class_word (c ∷ word) = is_digit c 10 || is_class_word (c ∷ word)

abbrev pub is_ttl_or_class : TokenSeen → Bool
is_ttl_or_class t = if t.is_quoted then false else is_ttl_or_class_word t.text

-- how many words come before the type: at most two, a TTL and a class
abbrev pub words_after_first : List TokenSeen → ℕ
words_after_first [] = 1
words_after_first (t ∷ tokens) = if is_ttl_or_class t then 2 else 1

abbrev pub words_before_type : List TokenSeen → ℕ
words_before_type [] = 0
words_before_type (t ∷ tokens) = if is_ttl_or_class t then words_after_first tokens else 0

-- after a type that isn't quoted, one token: the RDATA
abbrev pub rdata_parts : ℕ → ℕ → List TokenSeen → Result (List Part) GenerateError
rdata_parts end last [] = Err (error_at_token end MissingToken)
rdata_parts end last (t ∷ []) = Err (error_at_token end MissingToken)
rdata_parts end last (t ∷ d ∷ []) = if t.is_quoted then Err (error_at_token t.at QuotedToken) else token_side last d
rdata_parts end last (t ∷ d ∷ more ∷ tokens) = if t.is_quoted then Err (error_at_token t.at QuotedToken) else Err (error_at_token more.at TrailingToken)

-- the words up to the type, as they are spelled
abbrev pub words_up_to_type : List TokenSeen → List (List ℕ)
words_up_to_type tokens = map (λ t. t.text) (take (words_before_type tokens + 1) tokens)

abbrev pub generate_with : GenerateRange → List Part → List (List ℕ) → Result (List Part) GenerateError → Result Generating GenerateError
generate_with range owner words (Ok rdata) = Ok (record { range = range; owner = owner; words = words; rdata = rdata })
generate_with range owner words (Err e) = Err e

abbrev pub generate_after : ℕ → GenerateRange → Result (List Part) GenerateError → List TokenSeen → Result Generating GenerateError
generate_after end range (Ok owner) tokens = generate_with range owner (words_up_to_type tokens) (rdata_parts end range.last (drop (words_before_type tokens) tokens))
generate_after end range (Err e) tokens = Err e

abbrev pub generate_in : ℕ → Result GenerateRange GenerateError → TokenSeen → List TokenSeen → Result Generating GenerateError
generate_in end (Ok range) owner tokens = generate_after end range (token_owner range.last owner) tokens
generate_in end (Err e) owner tokens = Err e

-- the directive of the tokens after `$GENERATE`, in an entry that ends at an offset; or the first error
abbrev pub generate_of : ℕ → ℕ → List TokenSeen → Result Generating GenerateError
generate_of most end [] = Err (error_at_token end MissingToken)
generate_of most end (t ∷ []) = Err (error_at_token end MissingToken)
generate_of most end (range ∷ owner ∷ tokens) = generate_in end (token_range most range) owner tokens

-- the texts of tokens
abbrev pub word_texts : List EntryToken → List (List ℕ)
word_texts tokens = map (λ t. t.text.now) tokens

-- words, each after a blank
abbrev pub words_text : List (List ℕ) → List ℕ
words_text words = flat_map (λ w. space ∷ w) words

-- the entry for a number: owner, TTL, class and type as they are spelled, and RDATA, with a line feed at the end
abbrev pub entry_text : ℕ → Generating → List ℕ
entry_text n g = side_text n g.owner ++ (words_text g.words ++ (space ∷ (side_text n g.rdata ++ (line_feed ∷ []))))
