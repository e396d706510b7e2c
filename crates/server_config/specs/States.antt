-- Where a reader of named.conf is.
use Rattle.std.specs.Prelude.{Bool, true, false, Option, None, Some}
use Rattle.server_config.specs.Settings.{no_settings, no_zone_settings}
use Rattle.server_config.specs.Tokens.{no_token}
use Rattle.server_config.specs.declared.settings.Settings.{Settings}
use Rattle.server_config.specs.declared.settings.ZoneSettings.{ZoneSettings}
use Rattle.server_config.specs.declared.state.ConfigBlock.{ConfigBlock}
use Rattle.server_config.specs.declared.state.ConfigBlock.TheVariants.{Options, Outside, View, Zone, ZoneInView}
use Rattle.server_config.specs.declared.state.ConfigState.{ConfigState}
use Rattle.server_config.specs.declared.state.LastClause.TheVariants.{Statement}

-- a configuration begins outside of blocks, with no settings
abbrev pub first_state : ConfigState
first_state = record { block = Outside; outermost = Outside; depth = 0; last = Statement; view_word = no_token; block_word = no_token; passed_word = no_token; options = no_settings; view = no_settings; zone = no_zone_settings }

-- a text that is included does not close the block in which it begins
abbrev pub state_inside : ConfigState → ConfigState
state_inside s = record s { outermost = s.block }

-- after it, the text around has its own outermost block again
abbrev pub state_around : ConfigState → ConfigState → ConfigState
state_around outer s = record s { outermost = outer.outermost }

-- the settings of a block
abbrev pub settings_in : ConfigBlock → ConfigState → Option Settings
settings_in Outside s = None
settings_in Options s = Some s.options
settings_in View s = Some s.view
settings_in Zone s = Some s.zone.settings
settings_in ZoneInView s = Some s.zone.settings

abbrev pub block_settings : ConfigState → Option Settings
block_settings s = settings_in s.block s

abbrev pub zone_with_settings : ZoneSettings → Settings → ZoneSettings
zone_with_settings z settings = record z { settings = settings }

abbrev pub with_settings_in : ConfigBlock → ConfigState → Settings → ConfigState
with_settings_in Outside s settings = s
with_settings_in Options s settings = record s { options = settings }
with_settings_in View s settings = record s { view = settings }
with_settings_in Zone s settings = record s { zone = zone_with_settings s.zone settings }
with_settings_in ZoneInView s settings = record s { zone = zone_with_settings s.zone settings }

abbrev pub with_block_settings : ConfigState → Settings → ConfigState
with_block_settings s settings = with_settings_in s.block s settings

-- a zone, in a view or not
abbrev pub is_zone : ConfigBlock → Bool
is_zone Outside = false
is_zone Options = false
is_zone View = false
is_zone Zone = true
is_zone ZoneInView = true

-- other settings of the zone
abbrev pub with_zone : ConfigState → ZoneSettings → ConfigState
with_zone s zone = record s { zone = zone }
