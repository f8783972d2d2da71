use Rattle.layout.proofs.Layouts.{prefix_free}
use Rattle.latm.specs.MuxConfig.{mux_config}
use Rattle.latm.specs.MuxConfigExact.{mux_config_exact}
use Rattle.latm.proofs.laws.mux_config_has_one_spelling.Goals as goal

pub returns : goal.returns
returns c = prefix_free mux_config mux_config_exact
