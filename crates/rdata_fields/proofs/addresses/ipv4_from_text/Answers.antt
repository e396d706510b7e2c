use Rattle.std.proofs.Common.{append-nil, lit≤, [], sym, refl, subst}
use Rattle.std.specs.Net.Addr.{ipv4_octets}
use Rattle.std.specs.Net.Grammar.{IsIpv4Text}
use Rattle.std.proofs.NetLemmas.Ipv4.{read_ipv4_sound, read_ipv4_complete}
use Rattle.std.proofs.NetLemmas.Wholes.{parses_whole}
use Rattle.rdata_values.specs.Kind.{ReadsKind}
use Rattle.rdata_values.specs.declared.error.ErrorKind.TheVariants.{ExpectedIpv4}
use Rattle.rdata_fields.proofs.AddressReads.{reads_kind}
use Rattle.rdata_fields.proofs.addresses.ipv4_from_text.Goals as goal

pub returns : goal.returns
returns c =
    let parsed = parses_whole ipv4_octets IsIpv4Text c.args.text.now _
    (λ a rest e. read_ipv4_sound _ _ rest e)
    (λ a h. rw append-nil at (read_ipv4_complete _ _ [] h (lit≤ tt)))
    _ c.whole.result ExpectedIpv4 _ c.read_ipv4.ensures c.whole.ensures refl in
    subst (ReadsKind IsIpv4Text ExpectedIpv4 c.args.text.now) (sym c.ok_or.ensures.value) (reads_kind IsIpv4Text ExpectedIpv4 c.args.text.now c.whole.result parsed)
