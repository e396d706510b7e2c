use Rattle.std.proofs.Common.{◌≡◌, length}
use Rattle.std.specs.Prelude.{is_some}
use Rattle.zone_reader.specs.Source.{IsOpenBefore, TokensEnd, parts_after_unread, source_seen}
use Rattle.zone_reader.proofs.SeenParts.{with_next}
use Rattle.zone_reader.proofs.source.EntrySource.finish.Given as goal

abbrev pub invariant-tokens : goal.invariant-tokens
invariant-tokens l = record {
  goes_on : IsOpenBefore l.self-inside.next l.self-inside.tokens;
  ends : TokensEnd (with_next l.self-inside.next l.self-inside.tokens);
  began : l.self-inside.began ≡ l.initial.self-inside.began;
  taken : l.self-inside.taken ≡ l.initial.self-inside.taken;
  some : is_some l.self-inside.next ≡ is_some l.initial.self-inside.next;
  behind : parts_after_unread (source_seen l.self-inside.began l.self-inside.next l.self-inside.taken l.self-inside.tokens)
      ≡ parts_after_unread (source_seen l.initial.self-inside.began l.initial.self-inside.next l.initial.self-inside.taken l.initial.self-inside.tokens);
}

abbrev pub decreases-tokens : goal.decreases-tokens
decreases-tokens l = length l.self-inside.tokens
