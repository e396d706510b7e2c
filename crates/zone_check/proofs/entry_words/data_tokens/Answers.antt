use Rattle.zone_check.proofs.TokenLists.{data_after, data_at_end}
use Rattle.zone_check.proofs.entry_words.data_tokens.Goals as goal

pub returns-then-place-words : goal.returns-then-place-words
returns-then-place-words c =
    data_at_end c.args.begins_blank c.args.tokens.now c.after_owner-words.result.now c.first_word-place.result c.after_owner-words.ensures c.if-place-words.true c.first_word-place.ensures.first

pub returns : goal.returns
returns c = data_after c.args.begins_blank c.args.tokens.now c.after_owner-words.result.now c.first_word-place.result c.after_owner-words.ensures c.first_word-place.ensures.first
