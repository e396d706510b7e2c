-- The lines that set a state.
use Rattle.std.specs.Prelude.{◌≡◌, ◌≢◌, ◌<◌, ◌^◌, ◌++◌, ◌∷◌, ℕ, [], List, map, refl, unwrap_or, Option, Some, None}
use Rattle.std.specs.Option.{option_or, option_to_list}
use Rattle.dns_octets.specs.Room.{Room}
use Rattle.dns_zone.specs.Layout.{Step, newline}
use Rattle.dns_zone.specs.Nesting.{IsNested, lines_of}
use Rattle.dns_zone.specs.Forming.{nested_append, nested_lines}
use Rattle.zone_record.specs.DataTokens.{tokens_are_nested}
use Rattle.zone_record.specs.RdataPrinting.{token_steps}
use Rattle.zone_record.specs.Records.{record_document, record_nests, record_tokens}
use Rattle.zone_record.specs.declared.record.Record.{Record}
use Rattle.zone_reader.specs.Past.{nothing_declared}
use Rattle.zone_reader.specs.declared.known.NameState.{NameState}
use Rattle.zone_reader.specs.declared.known.NameState.TheVariants.{Unset, Name, Rejected}
use Rattle.zone_reader.specs.declared.state.State.{State}
use Rattle.zone_stream.specs.Alike.{AreAlike, AreReadInTurn}
use Rattle.zone_stream.specs.Heads.{Line, default_ttl_lines, origin_lines, repeated_document}
use Rattle.zone_parts.specs.declared.head.StateHead.{StateHead}

-- `$TTL`, the record, and `$ORIGIN`, each on a line, if known
abbrev pub state_head_lines : StateHead → List Line
state_head_lines h = default_ttl_lines h.state.now.default_ttl ++ (map record_tokens (option_to_list h.last_record) ++ origin_lines h.state.now.origin)

abbrev pub state_head_document : StateHead → List Step
state_head_document h = lines_of token_steps (default_ttl_lines h.state.now.default_ttl) ++ (repeated_document h.last_record ++ lines_of token_steps (origin_lines h.state.now.origin))

-- a record has the last owner, if there is one, and the last TTL, or else the default; without an owner no record is needed, unless a last TTL matters
abbrev pub SetsOwner : {N O : Type 0} → NameState → Option ℕ → Option ℕ → Option (Record N O) → Type 0
SetsOwner Unset last default one = (one ≡ None) × (default ≡ None → last ≡ None)
SetsOwner {N} {O} (Name labels) last default one = (r : Record N O) × (one ≡ Some r) × (r.owner ≡ labels) × (option_or last default ≡ Some r.ttl) × (r.ttl < 2 ^ 31)
SetsOwner Rejected last default one = ⊥

-- these lines set a state: no name is rejected, and each TTL is below 2^31
pub record SetsState (s : State) (h : StateHead) : Type 0 where
  pub state_is : h.state.now ≡ s
  pub origin : s.origin ≢ Rejected
  pub short : unwrap_or s.default_ttl 0 < 2 ^ 31
  pub owner : SetsOwner s.owner s.last_ttl s.default_ttl h.last_record

-- The lines, read from the class alone, leave a state that is alike to the head's.
abbrev pub LinesLeadThere : State → StateHead → Type 0
LinesLeadThere s h = (room : Room) (last : State) → AreReadInTurn room (nothing_declared s.class) (state_head_lines h) last → AreAlike s last

-- ---- lemmas

nested_record : {N O : Type 0} (r : Option (Record N O)) → IsNested (repeated_document r)
nested_record None = refl
nested_record (Some r) = nested_append 0 (record_document r) (newline ∷ []) (record_nests r) refl

pub state_head_nests : (h : StateHead) → IsNested (state_head_document h)
state_head_nests h =
    let default = default_ttl_lines h.state.now.default_ttl in
    let origin = origin_lines h.state.now.origin in
    let names = nested_append 0 (repeated_document h.last_record) (lines_of token_steps origin) (nested_record h.last_record) (nested_lines token_steps tokens_are_nested origin) in
    nested_append 0 (lines_of token_steps default) (repeated_document h.last_record ++ lines_of token_steps origin) (nested_lines token_steps tokens_are_nested default) names
