use Rattle.std.proofs.Common.{append-nil, [], sym, refl, subst}
use Rattle.std.specs.Net.Addr.{ipv6_segments}
use Rattle.std.specs.Net.Grammar.{IsIpv6Text}
use Rattle.std.proofs.NetLemmas.Ipv6.{read_ipv6_sound, read_ipv6_complete, EndsGroups-nil}
use Rattle.std.proofs.NetLemmas.Wholes.{parses_whole}
use Rattle.rdata_values.specs.Kind.{ReadsKind}
use Rattle.rdata_values.specs.declared.error.ErrorKind.TheVariants.{ExpectedIpv6}
use Rattle.rdata_fields.proofs.AddressReads.{reads_kind}
use Rattle.rdata_fields.proofs.addresses.ipv6_from_text.Goals as goal

pub returns : goal.returns
returns c =
    let parsed = parses_whole ipv6_segments IsIpv6Text c.args.text.now _
    (λ a rest e. read_ipv6_sound _ _ rest e)
    (λ a h. rw append-nil at (read_ipv6_complete _ _ [] h EndsGroups-nil))
    _ c.whole.result ExpectedIpv6 _ c.read_ipv6.ensures c.whole.ensures refl in
    subst (ReadsKind IsIpv6Text ExpectedIpv6 c.args.text.now) (sym c.ok_or.ensures.value) (reads_kind IsIpv6Text ExpectedIpv6 c.args.text.now c.whole.result parsed)
