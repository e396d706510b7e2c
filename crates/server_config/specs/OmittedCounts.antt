-- Numbers of zones that are left out.
use Rattle.std.specs.Prelude.{ℕ, ◌+◌, ◌-◌, ◌^◌, min}
use Rattle.server_config.specs.declared.omitted.OmittedCounts.{OmittedCounts}
use Rattle.server_config.specs.declared.settings.OmitReason.{OmitReason}
use Rattle.server_config.specs.declared.settings.OmitReason.TheVariants.{Database, Format, InView, OtherType, Template, UnknownType}

abbrev pub no_counts : OmittedCounts
no_counts = record { other_type = 0; unknown_type = 0; in_view = 0; database = 0; format = 0; template = 0 }

-- one more, in 64 bits
abbrev pub one_more : ℕ → ℕ
one_more n = min (n + 1) (2 ^ 64 - 1)

-- a zone is left out for a reason: its number is one more, and the others are the same
abbrev pub omission_counted : OmittedCounts → OmitReason → OmittedCounts
omission_counted c OtherType = record c { other_type = one_more c.other_type }
omission_counted c UnknownType = record c { unknown_type = one_more c.unknown_type }
omission_counted c InView = record c { in_view = one_more c.in_view }
omission_counted c Database = record c { database = one_more c.database }
omission_counted c Format = record c { format = one_more c.format }
omission_counted c Template = record c { template = one_more c.template }
