-- Tokens of which one was rejected as a field spell no fields, unless the octets didn't fit.
use Rattle.std.proofs.Common.{ℕ, zero, suc, replicate, Option, Some, ◌≡◌, ◌≢◌, ◌<◌, ◌+◌, List, [], ◌∷◌, ◌++◌, length, take, drop, refl, sym, ap, subst, ◌∙◌, inl, inr, arith, length-append}
use Rattle.std.proofs.lemmas.List.{append_assoc}
use Rattle.std.proofs.lemmas.Option.{none-some}
use Rattle.std.specs.Prelude.{slice_get}
use Rattle.dns_octets.specs.Room.{Room}
use Rattle.dns_lexer.specs.EntryTokens.{TokenSeen}
use Rattle.rdata_fields.proofs.Takings.{as_many, take_last, get_last}
use Rattle.std.proofs.lemmas.List.{length-replicate}
use Rattle.rdata_fields.specs.Parsing.{SpellsEach, SpellsField, SpellsFields, RefusesAField, RefusesNext}
use Rattle.rdata_values.specs.declared.error.ErrorKind.{ErrorKind}
use Rattle.rdata_values.specs.declared.error.ErrorKind.TheVariants.{ShortBuf}
use Rattle.rdata_fields.specs.declared.field.Field.{Field}
use Rattle.rdata_fields.proofs.FormLaws.{fields_once, fields_begun}

module _ (origin : Option (List (List ℕ))) where
  pub field_once : (f : Field) (t : TokenSeen) (a b : List ℕ) → SpellsField origin f t a → SpellsField origin f t b → a ≡ b
  field_once f t a b h k = fields_once origin f t.is_quoted t.text a b h k

  pub all_once : (fields : List Field) (tokens : List TokenSeen) (a b : List ℕ) → SpellsFields origin fields tokens a → SpellsFields origin fields tokens b → a ≡ b
  all_once [] [] a b h k = h ∙ sym k
  all_once [] (t ∷ ts) a b h k = absurd h
  all_once (f ∷ fs) [] a b h k = absurd h
  all_once (f ∷ fs) (t ∷ ts) a b h k =
      h.2 ∙ ap (λ o. o ++ h.1) (field_once f t h.0 k.0 h.3 k.3) ∙ ap (λ o. k.0 ++ o) (all_once fs ts h.1 k.1 h.4 k.4) ∙ sym k.2

  -- after octets come those of a field that a token spells
  pub record IsNext (f : Field) (t : TokenSeen) (o octets : List ℕ) : Type 0 where
    pub mid : List ℕ
    pub back : List ℕ
    pub whole : octets ≡ o ++ (mid ++ back)
    pub spelled : SpellsField origin f t mid

  behind : (f : Field) (t : TokenSeen) (front o octets : List ℕ) → IsNext f t o octets → IsNext f t (front ++ o) (front ++ octets)
  behind f t front o octets h = record { mid = h.mid; back = h.back; whole = ap (λ z. front ++ z) h.whole ∙ sym (append_assoc front o (h.mid ++ h.back)); spelled = h.spelled }

  pub stands_next : (before more : List Field) (f : Field) (taken left first last : List TokenSeen) (o octets : List ℕ) → SpellsFields origin before taken o → SpellsFields origin (before ++ f ∷ more) first octets
      → first ++ last ≡ taken ++ left → (t : TokenSeen) × (ts : List TokenSeen) × (left ≡ t ∷ ts) × IsNext f t o octets
  stands_next [] more f [] left [] last o octets h k is = absurd k
  stands_next [] more f [] left (u ∷ us) last o octets h k is =
      (u, us ++ last, sym is, record { mid = k.0; back = k.1; whole = k.2 ∙ ap (λ z. z ++ (k.0 ++ k.1)) (sym h); spelled = k.3 })
  stands_next [] more f (v ∷ vs) left first last o octets h k is = absurd h
  stands_next (g ∷ gs) more f [] left first last o octets h k is = absurd h
  stands_next (g ∷ gs) more f (v ∷ vs) left [] last o octets h k is = absurd k
  stands_next (g ∷ gs) more f (v ∷ vs) left (u ∷ us) last o octets h k is =
      let head : u ≡ v = cc is in
      let tail : us ++ last ≡ vs ++ left = cc is in
      let next = stands_next gs more f vs left us last h.1 k.1 h.4 k.4 tail in
      let front : k.0 ≡ h.0 = field_once g v k.0 h.0 (subst (λ t. SpellsField origin g t k.0) head k.3) h.3 in (
        next.0,
        next.1,
        next.2,
        subst (λ z. IsNext f next.0 o z) (sym k.2) (subst (λ z. IsNext f next.0 z (k.0 ++ k.1)) (sym h.2) (subst (λ z. IsNext f next.0 (z ++ h.1) (k.0 ++ k.1)) front (behind f next.0 k.0 h.1 k.1 next.3))),
      )

  field_split : (fields : List Field) (k : ℕ) (f : Field) → slice_get fields k ≡ Some f → fields ≡ take k fields ++ f ∷ drop (suc k) fields
  field_split [] zero f h = absurd (none-some f h)
  field_split [] (suc k) f h = absurd (none-some f h)
  field_split (g ∷ gs) zero f h = let same : g ≡ f = cc h in ap (λ x. x ∷ gs) same
  field_split (g ∷ gs) (suc k) f h = ap (λ x. g ∷ x) (field_split gs k f h)

  refused_next : (room : Room) (f : Field) (left : List TokenSeen) (middle : List ℕ) (e : ErrorKind) (t : TokenSeen) (ts : List TokenSeen) (mid : List ℕ) → RefusesNext origin room f left middle e → left ≡ t ∷ ts
      → SpellsField origin f t mid → (e ≡ ShortBuf) × (room.fits < length middle + length mid)
  refused_next room f [] middle e t ts mid h is sp = cc is
  refused_next room f (u ∷ us) middle e t ts mid (inl h) is sp =
      let same : u ≡ t = cc is in
      let few = fields_begun origin f u.is_quoted u.text h.1.0 mid h.1.1 (subst (λ x. SpellsField origin f x mid) (sym same) sp) in (h.0, omega (arith, few, h.1.2))
  refused_next room f (u ∷ us) middle e t ts mid (inr h) is sp = let same : u ≡ t = cc is in absurd (h.1 mid (subst (λ x. SpellsField origin f x mid) (sym same) sp))

  pub only_room_lacks : (room : Room) (fields : List Field) (tokens : List TokenSeen) (old : List ℕ) (place : ℕ) (e : ErrorKind) (left : List TokenSeen) (new : List ℕ) (first last : List TokenSeen) (octets : List ℕ)
      → RefusesAField origin room fields tokens old place e left new → tokens ≡ first ++ last → SpellsFields origin fields first octets → (e ≡ ShortBuf) × (room.fits < length old + length octets)
  only_room_lacks room fields tokens old place e left new first last octets h is sp =
      let split = field_split fields place h.field h.is_field in
      let b = h.before in
      let next = stands_next (take place fields) (drop (suc place) fields) h.field b.taken left first last b.octets octets b.spelled (subst (λ fs. SpellsFields origin fs first octets) split sp) (sym is ∙ b.whole) in
      let n = next.3 in
      let lacks = refused_next room h.field left h.middle e next.0 next.1 n.mid h.why next.2 n.spelled in
      let middle_length = ap length b.gained ∙ length-append old b.octets in
      let all = ap length n.whole ∙ length-append b.octets (n.mid ++ n.back) in
      let rest = length-append n.mid n.back in
      (lacks.0, omega (arith, lacks.1, middle_length, all, rest))

  each_next : (f : Field) (taken left : List TokenSeen) (o octets : List ℕ) → left ≢ [] → SpellsEach origin f taken o → SpellsEach origin f (taken ++ left) octets
      → (t : TokenSeen) × (ts : List TokenSeen) × (left ≡ t ∷ ts) × IsNext f t o octets
  each_next f [] [] o octets some h k = absurd (some refl)
  each_next f [] (t ∷ ts) o octets some h k = (t, ts, refl, record { mid = k.0; back = k.1; whole = k.2 ∙ ap (λ z. z ++ (k.0 ++ k.1)) (sym h); spelled = k.3 })
  each_next f (v ∷ vs) left o octets some h k =
      let next = each_next f vs left h.1 k.1 some h.4 k.4 in
      let front : k.0 ≡ h.0 = field_once f v k.0 h.0 k.3 h.3 in (
        next.0,
        next.1,
        next.2,
        subst (λ z. IsNext f next.0 o z) (sym k.2) (subst (λ z. IsNext f next.0 z (k.0 ++ k.1)) (sym h.2) (subst (λ z. IsNext f next.0 (z ++ h.1) (k.0 ++ k.1)) front (behind f next.0 k.0 h.1 k.1 next.3))),
      )

  pub same_field : (count : ℕ) (f g : Field) → slice_get (replicate (suc count) f) count ≡ Some g → f ≡ g
  same_field count f g h = let same : Some f ≡ Some g = sym (get_last origin count f) ∙ h in cc same

  -- the tokens before one that is rejected are each of the field
  pub each_before : (room : Room) (f : Field) (count : ℕ) (tokens : List TokenSeen) (old : List ℕ) (e : ErrorKind) (left : List TokenSeen) (new : List ℕ)
      → (h : RefusesAField origin room (replicate (suc count) f) tokens old count e left new) → SpellsEach origin f h.before.taken h.before.octets
  each_before room f count tokens old e left new h =
      let spelled : SpellsFields origin (replicate count f) h.before.taken h.before.octets = subst (λ fs. SpellsFields origin fs h.before.taken h.before.octets) (take_last origin count f) h.before.spelled in
      let many : count ≡ length h.before.taken = sym (length-replicate count f) ∙ as_many origin (replicate count f) h.before.taken h.before.octets spelled in
      subst (λ n. SpellsFields origin (replicate n f) h.before.taken h.before.octets) many spelled

  pub each_only_room : (room : Room) (f : Field) (count : ℕ) (tokens : List TokenSeen) (old : List ℕ) (e : ErrorKind) (left : List TokenSeen) (new octets : List ℕ) → left ≢ []
      → RefusesAField origin room (replicate (suc count) f) tokens old count e left new → SpellsEach origin f tokens octets → (e ≡ ShortBuf) × (room.fits < length old + length octets)
  each_only_room room f count tokens old e left new octets some h sp =
      let b = h.before in
      let next = each_next f b.taken left b.octets octets some (each_before room f count tokens old e left new h) (subst (λ ts. SpellsEach origin f ts octets) b.whole sp) in
      let n = next.3 in
      let same = same_field count f h.field h.is_field in
      let lacks = refused_next room h.field left h.middle e next.0 next.1 n.mid h.why next.2 (subst (λ g. SpellsField origin g next.0 n.mid) same n.spelled) in
      let middle_length = ap length b.gained ∙ length-append old b.octets in
      let all = ap length n.whole ∙ length-append b.octets (n.mid ++ n.back) in
      let rest = length-append n.mid n.back in
      (lacks.0, omega (arith, lacks.1, middle_length, all, rest))

  -- the same fields at the start of the same tokens are those of the same tokens
  pub fields_front : (fields : List Field) (first last taken left : List TokenSeen) (a b : List ℕ) → SpellsFields origin fields first a → SpellsFields origin fields taken b → first ++ last ≡ taken ++ left
      → (first ≡ taken) × (last ≡ left) × (a ≡ b)
  fields_front [] [] last [] left a b h k is = (refl, is, h ∙ sym k)
  fields_front [] [] last (v ∷ vs) left a b h k is = absurd k
  fields_front [] (u ∷ us) last taken left a b h k is = absurd h
  fields_front (f ∷ fs) [] last taken left a b h k is = absurd h
  fields_front (f ∷ fs) (u ∷ us) last [] left a b h k is = absurd k
  fields_front (f ∷ fs) (u ∷ us) last (v ∷ vs) left a b h k is =
      let head : u ≡ v = cc is in
      let tail : us ++ last ≡ vs ++ left = cc is in
      let rest = fields_front fs us last vs left h.1 k.1 h.4 k.4 tail in
      let front : h.0 ≡ k.0 = field_once f v h.0 k.0 (subst (λ t. SpellsField origin f t h.0) head h.3) k.3 in
      let tokens : us ≡ vs = rest.0 in
      let all : u ∷ us ≡ v ∷ vs = cc (head, tokens) in
      (all, rest.1, h.2 ∙ ap (λ o. o ++ h.1) front ∙ ap (λ o. k.0 ++ o) rest.2 ∙ sym k.2)
