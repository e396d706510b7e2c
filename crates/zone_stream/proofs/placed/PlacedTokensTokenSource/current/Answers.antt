use Rattle.std.proofs.Common.{◌∙◌, ap}
use Rattle.std.specs.Prelude.{None, Some, slice_get}
use Rattle.zone_reader.specs.Source.{unread_entry_tokens}
use Rattle.zone_reader.specs.TapeSource.{UnreadSeen}
use Rattle.zone_stream.proofs.Fits.{first_after, first_fits}
use Rattle.zone_stream.proofs.placed.PlacedTokensTokenSource.current.Goals as goal

pub overflow_add-result : goal.overflow_add-result
overflow_add-result c = record { fits = first_fits c.self.inside.base (unread_entry_tokens c.self.inside.source) c.in-Some.token c.in-Some.ensures c.self.invariant.tokens }

pub returns-in-Some : goal.returns-in-Some
returns-in-Some c = first_after c.self.inside.base (unread_entry_tokens c.self.inside.source) (Some c.in-Some.token) c.in-Some.ensures ∙ ap (λ (p : UnreadSeen). slice_get p.tokens 0) c.self.view_is

pub returns-in-None : goal.returns-in-None
returns-in-None c = first_after c.self.inside.base (unread_entry_tokens c.self.inside.source) None c.in-None.ensures ∙ ap (λ (p : UnreadSeen). slice_get p.tokens 0) c.self.view_is
