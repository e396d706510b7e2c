-- Words that name types, one after the other.
use Rattle.std.proofs.Common.{ℕ, true≢false, ◌≡◌, ◌≢◌, List, [], ◌∷◌, ◌++◌, refl, sym, ap, subst, ◌∙◌, inl, inr, append-nil}
use Rattle.std.proofs.lemmas.List.{append_assoc}
use Rattle.rdata_values.specs.Types.{SpellsType}
use Rattle.rdata_values.proofs.CodeLaws.{types_are_kind}
use Rattle.rdata_values.specs.Bitmap.{bitmap, has, SameTypes}
use Rattle.rdata_values.proofs.TypesOf.{same_bitmap, same_types_more}
use Rattle.dns_octets.specs.Room.{Room}
use Rattle.dns_octets.specs.Appending.{Extends, Gains, LacksRoom}
use Rattle.rdata_fields.specs.Source.{next_place}
use Rattle.dns_lexer.specs.EntryTokens.{TokenSeen}
use Rattle.rdata.specs.Rests.{RefusesAs, RefusesRest}
use Rattle.std.specs.Prelude.{Err}
use Rattle.rdata.specs.TypeLists.{InsertsNext, NamesType, NameTypes, NamesNone, types_form}
use Rattle.rdata_fields.specs.RecordErrors.{error_at}
use Rattle.rdata_fields.specs.declared.record_error.RecordError.{RecordError}
use Rattle.rdata_values.specs.declared.error.ErrorKind.{ErrorKind}
use Rattle.rdata_values.specs.declared.error.ErrorKind.TheVariants.{ShortBuf}
use Rattle.rdata_fields.specs.RecordErrors.{IsErrorAt}
use Rattle.rdata.proofs.ErrorPlaces.{placed, moved}

pub record HasNamed (set : List ℕ) (tokens left : List TokenSeen) : Type 0 where
  pub before : List TokenSeen
  pub whole : tokens ≡ before ++ left
  pub types : List ℕ
  pub named : NameTypes before types
  pub same : SameTypes set types

pub none_named : (set : List ℕ) (tokens : List TokenSeen) → set ≡ [] → HasNamed set tokens tokens
none_named set tokens none = record { before = []; whole = refl; types = []; named = tt; same = λ rtype small. ap (λ s. has s rtype) none }

names_more : (before : List TokenSeen) (types : List ℕ) (t : TokenSeen) (rtype : ℕ) → NameTypes before types → NamesType t rtype → NameTypes (before ++ t ∷ []) (types ++ rtype ∷ [])
names_more [] [] t rtype h k = (k, tt)
names_more [] (c ∷ cs) t rtype h k = absurd h
names_more (b ∷ bs) [] t rtype h k = absurd h
names_more (b ∷ bs) (c ∷ cs) t rtype h k = (h.0, names_more bs cs t rtype h.1 k)

pub more_named : (set new : List ℕ) (tokens left rest : List TokenSeen) → HasNamed set tokens left → (t : TokenSeen) × (left ≡ t ∷ rest) × ((rtype : ℕ) × NamesType t rtype × SameTypes new (rtype ∷ set)) → HasNamed new tokens rest
more_named set new tokens left rest h k = let t = k.0 in record {
  before = h.before ++ t ∷ [];
  whole = h.whole ∙ ap (λ l. h.before ++ l) k.1 ∙ sym (append_assoc h.before (t ∷ []) rest);
  types = h.types ++ k.2.0 ∷ [];
  named = names_more h.before h.types t k.2.0 h.named k.2.1;
  same = same_types_more set new h.types k.2.0 h.same k.2.2;
}

one_type : (text : List ℕ) (a b : ℕ) → SpellsType text a → SpellsType text b → a ≡ b
one_type text a b h k = types_are_kind.once text a b h k

names_once : (tokens : List TokenSeen) (a b : List ℕ) → NameTypes tokens a → NameTypes tokens b → a ≡ b
names_once [] [] [] h k = refl
names_once [] [] (b ∷ bs) h k = absurd k
names_once [] (a ∷ as_) b h k = absurd h
names_once (t ∷ ts) [] b h k = absurd h
names_once (t ∷ ts) (a ∷ as_) [] h k = absurd k
names_once (t ∷ ts) (a ∷ as_) (b ∷ bs) h k =
    let front : a ≡ b = one_type t.text a b h.0.1 k.0.1 in
    let back : as_ ≡ bs = names_once ts as_ bs h.1 k.1 in
    cc (front, back)

pub names_at : (before ts : List TokenSeen) (t : TokenSeen) (types : List ℕ) → NameTypes (before ++ t ∷ ts) types → (rtype : ℕ) × NamesType t rtype
names_at [] ts t [] h = absurd h
names_at [] ts t (c ∷ cs) h = (c, h.0)
names_at (b ∷ bs) ts t [] h = absurd h
names_at (b ∷ bs) ts t (c ∷ cs) h = names_at bs ts t cs h.1

pub never_both : (t : TokenSeen) (e : ErrorKind) (rtype : ℕ) → NamesNone t e → NamesType t rtype → ⊥
never_both t e rtype (inl h) k = true≢false (sym h.1 ∙ k.0)
never_both t e rtype (inr h) k = elim h.1 [
  | inl none ↦ none.1 rtype k.1
  | inr zero ↦ k.2 (one_type t.text rtype 0 k.1 zero.1)
]

all_named : (set : List ℕ) (tokens left : List TokenSeen) (h : HasNamed set tokens left) → left ≡ [] → NameTypes tokens h.types
all_named set tokens left h none = subst (λ ts. NameTypes ts h.types) (sym (h.whole ∙ ap (λ l. h.before ++ l) none ∙ append-nil h.before)) h.named

pub types_gained : (set : List ℕ) (tokens left : List TokenSeen) (old new : List ℕ) → HasNamed set tokens left → left ≡ [] → new ≡ old ++ bitmap set → Gains (types_form.spells tokens) old new
types_gained set tokens left old new h none is =
    (bitmap set, (h.types, all_named set tokens left h none, same_bitmap set h.types h.same), is)

pub types_lack : (room : Room) (set : List ℕ) (tokens left : List TokenSeen) (old new : List ℕ) (begun end at : ℕ) (h : HasNamed set tokens left) → left ≡ [] → end ≡ begun → at ≡ next_place left end
    → LacksRoom room (λ octets. octets ≡ bitmap set) old → Extends old new → RefusesRest room types_form begun tokens old (error_at at ShortBuf) left new
types_lack room set tokens left old new begun end at h none ends place lacks extends = record {
  at = placed ShortBuf (place ∙ ap (next_place left) ends);
  why = inl (refl, (none, (bitmap set, (h.types, all_named set tokens left h none, same_bitmap set h.types h.same), lacks (bitmap set) refl)));
  extends = extends;
}

type_refused : (room : Room) (set : List ℕ) (tokens left rest : List TokenSeen) (old : List ℕ) (begun end : ℕ) (r : RecordError) (h : HasNamed set tokens left) → end ≡ begun
    → (t : TokenSeen) × (ts : List TokenSeen) × (left ≡ t ∷ ts) × (rest ≡ t ∷ ts) × IsErrorAt t.at r × NamesNone t r.kind → RefusesRest room types_form begun tokens old r rest old
type_refused room set tokens left rest old begun end r h ends k = let t = k.0 in let ts = k.1 in let is : left ≡ t ∷ ts = k.2 in let rest_is : rest ≡ t ∷ ts = k.3 in record {
  at = moved r k.4 (ap (λ l. next_place l begun) (sym rest_is));
  why = subst (λ l. RefusesAs room types_form tokens old l r.kind) (sym rest_is) (inr (
    (h.before, h.whole ∙ ap (λ l. h.before ++ l) is, ((h.types, h.named), k.5)),
    λ octets sp. (
        let at = names_at h.before ts t sp.0 (subst (λ z. NameTypes z sp.0) (h.whole ∙ ap (λ l. h.before ++ l) is) sp.1) in
        never_both t r.kind at.0 k.5 at.1
        ),
  ));
  extends = ([], sym (append-nil old));
}

pub insert_refused : (room : Room) (set more : List ℕ) (tokens left rest : List TokenSeen) (old : List ℕ) (begun end : ℕ) (r : RecordError) → HasNamed set tokens left → end ≡ begun → left ≢ []
    → InsertsNext set end left (Err r) more rest → RefusesRest room types_form begun tokens old r rest old
insert_refused room set more tokens [] rest old begun end r h ends some k = absurd (some refl)
insert_refused room set more tokens (t ∷ ts) rest old begun end r h ends some k = type_refused room set tokens (t ∷ ts) rest old begun end r h ends (t, ts, refl, k.0, k.1, k.2)

pub types_once : (tokens : List TokenSeen) (a b : List ℕ) → types_form.spells tokens a → types_form.spells tokens b → a ≡ b
types_once tokens a b h k = h.2 ∙ ap bitmap (names_once tokens h.0 k.0 h.1 k.1) ∙ sym k.2
