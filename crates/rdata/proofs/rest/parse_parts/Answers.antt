use Rattle.std.proofs.Common.{false, true}
use Rattle.std.specs.Option.{option_copied}
use Rattle.rdata_tokens.specs.declared.kind.DigitsKind.TheVariants.{Hex as InHex, Base64 as InBase64}
use Rattle.rdata.specs.Digits.{digits_form}
use Rattle.rdata.specs.LocationRest.{location_form}
use Rattle.rdata.specs.MaybeStrings.{maybe_string_form}
use Rattle.rdata.specs.NsapRest.{nsap_form}
use Rattle.rdata.specs.ParamsRest.{params_form}
use Rattle.rdata.specs.PrefixLists.{prefixes_form}
use Rattle.rdata.specs.RestKinds.{strings_form}
use Rattle.rdata.specs.Rests.{some_form}
use Rattle.rdata.specs.Texts.{nothing_form, text_form}
use Rattle.rdata.specs.TypeLists.{types_form}
use Rattle.rdata.proofs.ErrorPlaces.{one_part}
use Rattle.rdata.proofs.rest.parse_parts.Goals as goal

pub returns-in-GatewayKey-clause-takes : goal.returns-in-GatewayKey-clause-takes
returns-in-GatewayKey-clause-takes g c = rw c.in-GatewayKey.is c.parse_gateway_parts.ensures.takes

pub returns-in-Nothing-clause-takes : goal.returns-in-Nothing-clause-takes
returns-in-Nothing-clause-takes g c =
    let left = g.S.TokenSource.left in
    let octets = g.B.AsOctets.octets in
    rw (c.in-Nothing.is, c.in_field_after.ensures)
    (one_part g.B.OctetsBuilder.room nothing_form c.args.before (g.S.TokenSource.end c.args.source.now).at (left c.args.source.now) (octets c.args.target.now) c.expect_no_token.result (left c.expect_no_token.new.source) (octets c.expect_no_token.new._target) c.expect_no_token.ensures.takes)

pub returns-in-Strings-clause-takes : goal.returns-in-Strings-clause-takes
returns-in-Strings-clause-takes g c =
    let left = g.S.TokenSource.left in
    let octets = g.B.AsOctets.octets in
    rw (c.in-Strings.is, c.in_field_after-in-Strings.ensures)
    (one_part g.B.OctetsBuilder.room (some_form (strings_form (option_copied c.args.origin))) c.args.before (g.S.TokenSource.end c.args.source.now).at (left c.args.source.now) (octets c.args.target.now) c.parse_some_strings.result (left c.parse_some_strings.new.source) (octets c.parse_some_strings.new.target) c.parse_some_strings.ensures.takes)

pub returns-in-MaybeString-clause-takes : goal.returns-in-MaybeString-clause-takes
returns-in-MaybeString-clause-takes g c =
    let left = g.S.TokenSource.left in
    let octets = g.B.AsOctets.octets in
    rw (c.in-MaybeString.is, c.in_field_after-in-MaybeString.ensures)
    (one_part g.B.OctetsBuilder.room maybe_string_form c.args.before (g.S.TokenSource.end c.args.source.now).at (left c.args.source.now) (octets c.args.target.now) c.parse_maybe_string.result (left c.parse_maybe_string.new.source) (octets c.parse_maybe_string.new.target) c.parse_maybe_string.ensures.takes)

pub returns-in-Hex-clause-takes : goal.returns-in-Hex-clause-takes
returns-in-Hex-clause-takes g c =
    let left = g.S.TokenSource.left in
    let octets = g.B.AsOctets.octets in
    rw (c.in-Hex.is, c.in_field_after-in-Hex.ensures)
    (one_part g.B.OctetsBuilder.room (some_form (digits_form InHex)) c.args.before (g.S.TokenSource.end c.args.source.now).at (left c.args.source.now) (octets c.args.target.now) c.parse_some_digits.result (left c.parse_some_digits.new.source) (octets c.parse_some_digits.new.target) c.parse_some_digits.ensures.takes)

pub returns-in-Base64-clause-takes : goal.returns-in-Base64-clause-takes
returns-in-Base64-clause-takes g c =
    let left = g.S.TokenSource.left in
    let octets = g.B.AsOctets.octets in
    rw (c.in-Base64.is, c.in_field_after-in-Base64.ensures)
    (one_part g.B.OctetsBuilder.room (some_form (digits_form InBase64)) c.args.before (g.S.TokenSource.end c.args.source.now).at (left c.args.source.now) (octets c.args.target.now) c.parse_some_digits-in-Base64.result (left c.parse_some_digits-in-Base64.new.source) (octets c.parse_some_digits-in-Base64.new.target) c.parse_some_digits-in-Base64.ensures.takes)

pub returns-in-Nsap-clause-takes : goal.returns-in-Nsap-clause-takes
returns-in-Nsap-clause-takes g c =
    let left = g.S.TokenSource.left in
    let octets = g.B.AsOctets.octets in
    rw (c.in-Nsap.is, c.in_field_after-in-Nsap.ensures)
    (one_part g.B.OctetsBuilder.room nsap_form c.args.before (g.S.TokenSource.end c.args.source.now).at (left c.args.source.now) (octets c.args.target.now) c.parse_nsap.result (left c.parse_nsap.new.source) (octets c.parse_nsap.new.target) c.parse_nsap.ensures.takes)

pub returns-in-Types-clause-takes : goal.returns-in-Types-clause-takes
returns-in-Types-clause-takes g c =
    let left = g.S.TokenSource.left in
    let octets = g.B.AsOctets.octets in
    rw (c.in-Types.is, c.in_field_after-in-Types.ensures)
    (one_part g.B.OctetsBuilder.room types_form c.args.before (g.S.TokenSource.end c.args.source.now).at (left c.args.source.now) (octets c.args.target.now) c.parse_types.result (left c.parse_types.new.source) (octets c.parse_types.new.target) c.parse_types.ensures.takes)

pub returns-in-SomeTypes-clause-takes : goal.returns-in-SomeTypes-clause-takes
returns-in-SomeTypes-clause-takes g c =
    let left = g.S.TokenSource.left in
    let octets = g.B.AsOctets.octets in
    rw (c.in-SomeTypes.is, c.in_field_after-in-SomeTypes.ensures)
    (one_part g.B.OctetsBuilder.room (some_form types_form) c.args.before (g.S.TokenSource.end c.args.source.now).at (left c.args.source.now) (octets c.args.target.now) c.parse_some_types.result (left c.parse_some_types.new.source) (octets c.parse_some_types.new.target) c.parse_some_types.ensures.takes)

pub returns-in-Text-clause-takes : goal.returns-in-Text-clause-takes
returns-in-Text-clause-takes g c =
    let left = g.S.TokenSource.left in
    let octets = g.B.AsOctets.octets in
    rw (c.in-Text.is, c.in_field_after-in-Text.ensures)
    (one_part g.B.OctetsBuilder.room (text_form false) c.args.before (g.S.TokenSource.end c.args.source.now).at (left c.args.source.now) (octets c.args.target.now) c.parse_text.result (left c.parse_text.new.source) (octets c.parse_text.new.target) c.parse_text.ensures.takes)

pub returns-in-QuotedText-clause-takes : goal.returns-in-QuotedText-clause-takes
returns-in-QuotedText-clause-takes g c =
    let left = g.S.TokenSource.left in
    let octets = g.B.AsOctets.octets in
    rw (c.in-QuotedText.is, c.in_field_after-in-QuotedText.ensures)
    (one_part g.B.OctetsBuilder.room (text_form true) c.args.before (g.S.TokenSource.end c.args.source.now).at (left c.args.source.now) (octets c.args.target.now) c.parse_text-in-QuotedText.result (left c.parse_text-in-QuotedText.new.source) (octets c.parse_text-in-QuotedText.new.target) c.parse_text-in-QuotedText.ensures.takes)

pub returns-in-Location-clause-takes : goal.returns-in-Location-clause-takes
returns-in-Location-clause-takes g c =
    let left = g.S.TokenSource.left in
    let octets = g.B.AsOctets.octets in
    rw (c.in-Location.is, c.in_field_after-in-Location.ensures)
    (one_part g.B.OctetsBuilder.room location_form c.args.before (g.S.TokenSource.end c.args.source.now).at (left c.args.source.now) (octets c.args.target.now) c.parse_loc.result (left c.parse_loc.new.source) (octets c.parse_loc.new.target) c.parse_loc.ensures.takes)

pub returns-in-Prefixes-clause-takes : goal.returns-in-Prefixes-clause-takes
returns-in-Prefixes-clause-takes g c =
    let left = g.S.TokenSource.left in
    let octets = g.B.AsOctets.octets in
    rw (c.in-Prefixes.is, c.in_field_after-in-Prefixes.ensures)
    (one_part g.B.OctetsBuilder.room prefixes_form c.args.before (g.S.TokenSource.end c.args.source.now).at (left c.args.source.now) (octets c.args.target.now) c.parse_prefixes.result (left c.parse_prefixes.new.source) (octets c.parse_prefixes.new.target) c.parse_prefixes.ensures.takes)

pub returns-in-Params-clause-takes : goal.returns-in-Params-clause-takes
returns-in-Params-clause-takes g c =
    let left = g.S.TokenSource.left in
    let octets = g.B.AsOctets.octets in
    rw (c.in-Params.is, c.in_field_after-in-Params.ensures)
    (one_part g.B.OctetsBuilder.room params_form c.args.before (g.S.TokenSource.end c.args.source.now).at (left c.args.source.now) (octets c.args.target.now) c.parse_service_params.result (left c.parse_service_params.new.source) (octets c.parse_service_params.new.target) c.parse_service_params.ensures.takes)

pub returns-in-HostIdentity-clause-takes : goal.returns-in-HostIdentity-clause-takes
returns-in-HostIdentity-clause-takes g c = rw c.in-HostIdentity.is c.parse_host_parts.ensures.takes
