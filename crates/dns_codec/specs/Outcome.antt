-- The result of decoding a text, as a function of the text and of the capacity in octets. The text alone defines
-- it, without open groups, padding that was seen or stored errors.
use Rattle.std.specs.Prelude.{◌≡◌, ℕ, ◌+◌, ◌-◌, ◌*◌, ◌/◌, ◌%◌, ◌==◌, ◌&&◌, Bool, nat_lt, nat_le, if◌then◌else◌, is_some, is_none, List, [], ◌∷◌, ◌++◌, length, reverse, find, count_by, Option}
use Rattle.std.specs.Prelude.{Some, None, Result, Ok, Err}
use Rattle.dns_octets.specs.Room.{Room}
use Rattle.dns_codec.specs.Base.{Base, value}
use Rattle.dns_codec.specs.Grammar.{Decodes, may_end_after}
use Rattle.dns_codec.specs.Errors.{or_else}
use Rattle.dns_codec.specs.Limit.{IsLimit}
use Rattle.dns_codec.specs.declared.error.DecodeError.{DecodeError}
use Rattle.dns_codec.specs.declared.error.DecodeError.TheVariants.{IllegalChar, TrailingInput, ShortInput, ShortBuf}

-- ShortBuf, if the octets exceed the limit
abbrev pub short_buf_if : ℕ → ℕ → Option DecodeError
short_buf_if limit octets = if nat_lt limit octets then Some ShortBuf else None

-- the octets of the whole groups of n characters
abbrev pub grouped : Base → ℕ → ℕ
grouped b n = n / b.group * b.group * b.width / 8

-- the number of `=` in a text, if the encoding has them
abbrev pub pad_count : Base → List ℕ → ℕ
pad_count b text = if nat_lt 1 b.unit then count_by (λ c. c == 61) text else 0

-- the whole octets of the other characters
abbrev pub octet_count : Base → List ℕ → ℕ
octet_count b text = (length text - pad_count b text) * b.width / 8

-- ---- decoding a text to the first character that is rejected

-- the error of a character, or its digit, after a text without `=`
abbrev pub char_error_open : Base → ℕ → List ℕ → ℕ → Option ℕ → Option DecodeError
char_error_open b limit front c (Some v) = short_buf_if limit (grouped b (length front + 1))
char_error_open b limit front c None =
    if (c == 61) && (nat_lt 1 b.unit && nat_le 2 (length front % b.group)) then
    (if length front % b.group + 1 == b.group then short_buf_if limit (octet_count b front) else None)
    else Some (IllegalChar c)

-- the same after `xx=`
abbrev pub char_error_padded : Base → ℕ → List ℕ → ℕ → Option ℕ → Option DecodeError
char_error_padded b limit front c (Some v) = or_else (short_buf_if limit (octet_count b front)) (Some TrailingInput)
char_error_padded b limit front c None = if c == 61 then short_buf_if limit (octet_count b front) else Some (IllegalChar c)

-- the error of a character after those before it. After a padded group every character has one
abbrev pub char_error : Base → ℕ → List ℕ → ℕ → Option DecodeError
char_error b limit front c =
    if pad_count b front == 0 then char_error_open b limit front c (value b c)
    else if length front % b.unit == 0 then Some TrailingInput
    else char_error_padded b limit front c (value b c)

-- the error of the first character that has one. `front` precedes the text
abbrev pub first_char_error : (List ℕ → ℕ → Option DecodeError) → List ℕ → List ℕ → Option DecodeError
first_char_error why front [] = None
first_char_error why front (c ∷ cs) = or_else (why front c) (first_char_error why (front ++ c ∷ []) cs)

-- a text of n characters may end
abbrev pub may_stop : Base → ℕ → Bool
may_stop b n = if nat_lt 1 b.unit then n % b.unit == 0 else may_end_after b n

-- the error at the end of a text without a cause
abbrev pub text_end_error : Base → ℕ → List ℕ → Option DecodeError
text_end_error b limit text = if may_stop b (length text) then short_buf_if limit (octet_count b text) else Some ShortInput

-- why a text isn't decoded
abbrev pub refusal : Base → ℕ → List ℕ → Option DecodeError
refusal b limit text = or_else (first_char_error (char_error b limit) [] text) (text_end_error b limit text)

-- ---- pushing all of its characters

-- the last illegal character of a text
abbrev pub last_illegal : Base → List ℕ → Option ℕ
last_illegal b text = find (λ c. is_none (value b c)) (reverse text)

-- how many characters of a text are legal
abbrev pub legal_count : Base → List ℕ → ℕ
legal_count b text = count_by (λ c. is_some (value b c)) text

abbrev pub stored_by : Base → ℕ → ℕ → Option ℕ → Option DecodeError
stored_by b limit n (Some c) = Some (IllegalChar c)
stored_by b limit n None = short_buf_if limit (grouped b n)

-- the error that is stored then: the first, if that is kept; or the last illegal character, else `ShortBuf`
abbrev pub stored : Base → ℕ → List ℕ → Option DecodeError
stored b limit text = if b.keeps_first then first_char_error (char_error b limit) [] text else stored_by b limit (length text) (last_illegal b text)

-- the decoder's error at the end of the text
abbrev pub pushed_refusal : Base → ℕ → List ℕ → Option DecodeError
pushed_refusal b limit text =
    if b.ends_first then (if may_end_after b (legal_count b text) then stored b limit text else Some ShortInput)
    else or_else (stored b limit text) (text_end_error b limit text)

-- ---- results

-- the result is the value of a text of the grammar, or that error
abbrev pub Outcome : Base → List ℕ → Option DecodeError → Result (List ℕ) DecodeError → Type 0
Outcome b text e (Ok octets) = (e ≡ None) × Decodes b text octets
Outcome b text e (Err f) = e ≡ Some f

-- for some capacity that the builder may have, the stored error and the result at the end are those
pub record IsPushed (b : Base) (error_of refusal : ℕ → List ℕ → Option DecodeError) (room : Room) (text : List ℕ) (error : Option DecodeError) (result_is : Result (List ℕ) DecodeError) : Type 0
  where
    pub limit : ℕ
    pub is_limit : IsLimit room limit
    pub stored_is : error ≡ error_of limit text
    pub outcome : Outcome b text (refusal limit text) result_is

-- for some room that the builder may have, the error is the text's
pub record IsRefusedBy (refusal : ℕ → List ℕ → Option DecodeError) (room : Room) (text : List ℕ) (error : DecodeError) : Type 0 where
  pub limit : ℕ
  pub is_limit : IsLimit room limit
  pub refused : refusal limit text ≡ Some error
