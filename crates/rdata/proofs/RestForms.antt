-- What tokens spell of each kind are octets of its form.
use Rattle.std.proofs.Common.{ℕ, Option, None, true, false, ◌≡◌, List, [], ◌∷◌, refl, sym, ap, subst, ◌∙◌, arith}
use Rattle.rdata_fields.specs.Parsing.{SpellsEach}
use Rattle.rdata_fields.specs.declared.field.Field.TheVariants.{String as OfString}
use Rattle.rdata_values.specs.Bitmap.{has, types_of}
use Rattle.rdata_values.proofs.Telling.{has_later}
use Rattle.rdata_values.proofs.TypesOf.{types_of_same}
use Rattle.rdata_tokens.specs.NameSpelling.{IsOrigin}
use Rattle.rdata_tokens.specs.Spelling.{AreOctetValues}
use Rattle.rdata_tokens.proofs.FormLaws.{octets_spelled, strings_spelled}
use Rattle.dns_lexer.specs.EntryTokens.{TokenSeen}
use Rattle.rdata.specs.RestKinds.{rest_form, AreCharacterStrings}
use Rattle.rdata.specs.RestLaws.{HoldOctets, AreRestForms}
use Rattle.rdata.specs.Texts.{AreText}
use Rattle.rdata.specs.TypeLists.{NameTypes, types_form}
use Rattle.rdata.specs.declared.rest.Rest.{Rest}
use Rattle.rdata.specs.declared.rest.Rest.TheVariants.{Nothing, Strings, MaybeString, Hex, Base64, Types, SomeTypes, Text, QuotedText, Location as OfLocation, Prefixes, GatewayKey, HostIdentity, Params, Nsap}
use Rattle.rdata_svcb.proofs.ParamLaws.{params_values}
use Rattle.rdata_tails.proofs.LocationLaws.{locations_are_read}
use Rattle.rdata.proofs.HostLaws.{host_is_wire, same_host_wire}
use Rattle.rdata.proofs.MaybeStringLaws.{maybe_string_is_wire}
use Rattle.rdata.proofs.NsapRestLaws.{nsap_is_wire}
use Rattle.rdata.proofs.PlacesWire.{prefixes_are_wire, gateway_key_is_wire, same_key_wire}
use Rattle.rdata.proofs.Reading.{rest_once, rest_exceeded}
use Rattle.rdata.proofs.WireStrings.{no_strings, string_before}

strings_are_wire : (origin : Option (List (List ℕ))) (tokens : List TokenSeen) (octets : List ℕ) → HoldOctets tokens → SpellsEach origin OfString tokens octets → AreCharacterStrings octets
strings_are_wire origin [] octets h k = subst AreCharacterStrings (sym k) no_strings
strings_are_wire origin (t ∷ ts) octets h k =
    subst AreCharacterStrings (sym k.2) (string_before k.0 k.1 (strings_spelled.spelled t.text k.0 h.0 k.3) (strings_are_wire origin ts k.1 h.1 k.4))

no_zero_named : (tokens : List TokenSeen) (types : List ℕ) → NameTypes tokens types → has types 0 ≡ false
no_zero_named [] [] h = refl
no_zero_named [] (code ∷ codes) h = absurd h
no_zero_named (t ∷ ts) [] h = absurd h
no_zero_named (t ∷ ts) (code ∷ codes) h = has_later code 0 codes h.0.2 ∙ no_zero_named ts codes h.1

types_are_wire : (tokens : List TokenSeen) (octets : List ℕ) → types_form.spells tokens octets → types_form.is_wire octets
types_are_wire tokens octets h =
    let same : has (types_of octets) 0 ≡ has h.0 0 = ap (λ o. has (types_of o) 0) h.2 ∙ types_of_same h.0 0 (omega arith) in
    ((h.0, sym h.2), same ∙ no_zero_named tokens h.0 h.1)

text_is_wire : (wants_quotes : _) (tokens : List TokenSeen) (octets : List ℕ) → HoldOctets tokens → AreText wants_quotes tokens octets → AreOctetValues octets
text_is_wire wants_quotes [] octets h k = absurd k
text_is_wire wants_quotes (t ∷ []) octets h k = octets_spelled.spelled t.text octets h.0 k.1
text_is_wire wants_quotes (t ∷ u ∷ ts) octets h k = absurd k

pub rest_is_wire : (origin : Option (List (List ℕ))) → IsOrigin origin → (r : Rest) (tokens : List TokenSeen) (octets : List ℕ) → HoldOctets tokens → (rest_form origin r).spells tokens octets → (rest_form origin r).is_wire octets
rest_is_wire origin is Nothing tokens octets h k = k.1
rest_is_wire origin is Strings tokens octets h k = (strings_are_wire origin tokens octets h k.0, k.1)
rest_is_wire origin is MaybeString tokens octets h k = maybe_string_is_wire tokens octets h k
rest_is_wire origin is Hex tokens octets h k = (k.0.1.bytes, k.1)
rest_is_wire origin is Base64 tokens octets h k = (k.0.1.bytes, k.1)
rest_is_wire origin is Nsap tokens octets h k = nsap_is_wire tokens octets k
rest_is_wire origin is Types tokens octets h k = types_are_wire tokens octets k
rest_is_wire origin is SomeTypes tokens octets h k = (types_are_wire tokens octets k.0, k.1)
rest_is_wire origin is Text tokens octets h k = text_is_wire false tokens octets h k
rest_is_wire origin is QuotedText tokens octets h k = text_is_wire true tokens octets h k
rest_is_wire origin is OfLocation tokens octets h k = locations_are_read.valid tokens octets k
rest_is_wire origin is Prefixes tokens octets h k = prefixes_are_wire tokens octets h k
rest_is_wire origin is GatewayKey tokens octets h k = gateway_key_is_wire origin is tokens octets h k
rest_is_wire origin is HostIdentity tokens octets h k = host_is_wire origin is tokens octets h k
rest_is_wire origin is Params tokens octets h k = (params_values tokens octets h k, k.right)

pub rests_are_forms : AreRestForms
rests_are_forms origin is r = record { are_wire = rest_is_wire origin is r; once = rest_once origin r; exceeded = rest_exceeded origin r }

-- the octets that a kind can have don't depend on the origin
pub wire_of_rest : (origin : Option (List (List ℕ))) (r : Rest) (octets : List ℕ) → (rest_form origin r).is_wire octets → (rest_form None r).is_wire octets
wire_of_rest origin Nothing octets h = h
wire_of_rest origin Strings octets h = h
wire_of_rest origin MaybeString octets h = h
wire_of_rest origin Hex octets h = h
wire_of_rest origin Base64 octets h = h
wire_of_rest origin Nsap octets h = h
wire_of_rest origin Types octets h = h
wire_of_rest origin SomeTypes octets h = h
wire_of_rest origin Text octets h = h
wire_of_rest origin QuotedText octets h = h
wire_of_rest origin OfLocation octets h = h
wire_of_rest origin Prefixes octets h = h
wire_of_rest origin GatewayKey octets h = same_key_wire origin octets h
wire_of_rest origin HostIdentity octets h = same_host_wire origin octets h
wire_of_rest origin Params octets h = h
