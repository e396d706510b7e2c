-- Lists of types to the end of an entry.
use Rattle.std.specs.Prelude.{ℕ, ◌≡◌, ◌≢◌, ◌⊎◌, true, false, List, [], ◌∷◌, map, Result, Ok, Err}
use Rattle.rdata_fields.specs.RecordErrors.{error_at, IsErrorAt}
use Rattle.rdata_fields.specs.declared.record_error.RecordError.{RecordError}
use Rattle.rdata_values.specs.declared.error.ErrorKind.{ErrorKind}
use Rattle.rdata_values.specs.declared.error.ErrorKind.TheVariants.{EndOfEntry, Quoted, UnknownType, TypeZero}
use Rattle.rdata_values.specs.Types.{SpellsType, portable_text}
use Rattle.rdata_values.specs.declared.types.RecordType.{RecordType}
use Rattle.rdata_values.specs.Bitmap.{bitmap, has, types_of, IsBitmap, SameTypes}
use Rattle.dns_lexer.specs.EntryTokens.{TokenSeen}
use Rattle.rdata.specs.Rests.{RestForm, AfterSomeTokens, ExceedsWhole}

-- a word names a type other than 0
abbrev pub NamesType : TokenSeen → RecordType → Type 0
NamesType t rtype = (t.is_quoted ≡ false) × SpellsType t.text rtype × (rtype ≢ 0)

-- each word names its type
abbrev pub NameTypes : List TokenSeen → List RecordType → Type 0
NameTypes [] [] = Unit {0}
NameTypes [] (rtype ∷ types) = ⊥
NameTypes (t ∷ ts) [] = ⊥
NameTypes (t ∷ ts) (rtype ∷ types) = NamesType t rtype × NameTypes ts types

-- why a token does not name a type of a list: it is a quoted string; or it names none; or type 0
abbrev pub NamesNone : TokenSeen → ErrorKind → Type 0
NamesNone t e =
    ((e ≡ Quoted) × (t.is_quoted ≡ true))
    ⊎ ((t.is_quoted ≡ false) × (((e ≡ UnknownType) × ((named : RecordType) → SpellsType t.text named → ⊥)) ⊎ ((e ≡ TypeZero) × SpellsType t.text 0)))

-- the next token's type is added to a set, and the token read; or it is rejected
abbrev pub InsertsNext : List RecordType → ℕ → List TokenSeen → Result (Unit {0}) RecordError → List RecordType → List TokenSeen → Type 0
InsertsNext types end tokens (Ok _) more left = (t : TokenSeen) × (tokens ≡ t ∷ left) × ((rtype : RecordType) × NamesType t rtype × SameTypes more (rtype ∷ types))
InsertsNext types end [] (Err r) more left = (left ≡ []) × (r ≡ error_at end EndOfEntry)
InsertsNext types end (t ∷ ts) (Err r) more left = (left ≡ t ∷ ts) × IsErrorAt t.at r × NamesNone t r.kind

-- the bitmap of the types that words name
abbrev pub NameBitmap : List TokenSeen → List ℕ → Type 0
NameBitmap tokens octets = (types : List RecordType) × NameTypes tokens types × (octets ≡ bitmap types)

-- after words that name types, why the next token is rejected
abbrev pub TypesReason : List TokenSeen → List TokenSeen → ErrorKind → Type 0
TypesReason before [] e = ⊥
TypesReason before (t ∷ ts) e = ((types : List RecordType) × NameTypes before types) × NamesNone t e

-- types in any order, repeated or not, except 0; they print in ascending order, each as a word, by name if every reader knows that
abbrev pub types_form : RestForm
types_form = record {
  spells = NameBitmap;
  exceeds = ExceedsWhole NameBitmap;
  reason = AfterSomeTokens TypesReason;
  is_wire = λ octets. IsBitmap octets × (has (types_of octets) 0 ≡ false);
  printed = λ octets. map (λ rtype. record { is_quoted = false; text = portable_text rtype }) (types_of octets);
}
