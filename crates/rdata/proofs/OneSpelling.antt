-- Tokens spell one list of octets as data of a type.
use Rattle.std.proofs.Common.{ℕ, ◌≡◌, ◌⊎◌, List, [], ◌++◌, sym, ap, subst, ◌∙◌, inl, inr, Option}
use Rattle.dns_lexer.specs.EntryTokens.{TokenSeen}
use Rattle.rdata_fields.proofs.Refused.{fields_front}
use Rattle.rdata_values.specs.declared.types.RecordType.{RecordType}
use Rattle.rdata.specs.ByType.{HasShape, SpellsGenericData, SpellsTypeData, shape_of_code}
use Rattle.rdata.specs.Data.{SpellsData}
use Rattle.rdata.specs.Generic.{BeginsGeneric}
use Rattle.rdata.specs.RestKinds.{rest_form}
use Rattle.rdata.specs.declared.shape.Shape.{Shape}
use Rattle.rdata.proofs.DataErrors.{same_spelled}
use Rattle.rdata.proofs.GenericLaws.{begins_so, generic_once}
use Rattle.rdata.proofs.Reading.{rest_once}

module _ (origin : Option (List (List ℕ))) (tokens : List TokenSeen) where
  pub shape_once : (shape : Shape) (a b : List ℕ) → SpellsData origin shape tokens a → SpellsData origin shape tokens b → a ≡ b
  shape_once shape a b h k =
      let same = fields_front origin shape.fields.now h.first h.last k.first k.last h.front k.front h.fields k.fields (sym h.tokens_are ∙ k.tokens_are) in
      let behind : h.back ≡ k.back = rest_once origin shape.rest k.last h.back k.back (subst (λ l. (rest_form origin shape.rest).spells l h.back) same.1 h.rest) k.rest in
      h.octets_are ∙ ap (λ o. o ++ h.back) same.2 ∙ ap (λ o. k.front ++ o) behind ∙ sym k.octets_are

  module _ (rtype : RecordType) where
    abbrev OwnForm : List ℕ → Type 0
    OwnForm octets = (BeginsGeneric tokens → ⊥) × ((shape : Shape) × HasShape (shape_of_code rtype) shape × SpellsData origin shape tokens octets)

    forms_once : (a b : List ℕ) → SpellsGenericData (shape_of_code rtype) tokens a ⊎ OwnForm a → SpellsGenericData (shape_of_code rtype) tokens b ⊎ OwnForm b → a ≡ b
    forms_once a b (inl h) (inl k) = generic_once tokens a b h.0 k.0
    forms_once a b (inl h) (inr k) = absurd (k.0 (begins_so tokens a h.0))
    forms_once a b (inr h) (inl k) = absurd (h.0 (begins_so tokens b k.0))
    forms_once a b (inr h) (inr k) = shape_once k.1.0 a b (same_spelled origin tokens (shape_of_code rtype) h.1.0 k.1.0 a h.1.1 k.1.1 h.1.2) k.1.2

    pub type_once : (a b : List ℕ) → SpellsTypeData origin rtype tokens a → SpellsTypeData origin rtype tokens b → a ≡ b
    type_once a b h k = forms_once a b h.1 k.1
