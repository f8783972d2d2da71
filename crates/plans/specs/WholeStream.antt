-- A whole stream: frames of one configuration, the first of which can be decoded with nothing before it.
use Rattle.std.specs.Prelude.{◌≡◌, ◌⊎◌, true, List, [], ◌∷◌, Option, Some, None, All}
use Rattle.usac_cfg.specs.declared.usac_config.UsacConfig.{UsacConfig}
use Rattle.usac_frame.specs.declared.frame.Frame.{Frame}
use Rattle.usac_frame.specs.AccessUnit.{IsFrame}
use Rattle.usac_frame.specs.Units.{payload_length}
use Rattle.preroll.specs.Carrying.{Carried}
use Rattle.plans.specs.Coded.{Coded, IsCoded, CarriesUnits}

-- It is an independent frame without a preroll.
pub record IsPlainStart (f : Coded) : Type 0 where
  pub frame : Frame
  pub is : IsFrame f.config f.au frame
  pub bare : payload_length f.config frame ≡ 0
  pub independent : frame.independent ≡ true

-- A stream may begin with it: it is such a frame, or one that carries units.
abbrev pub OpensStream : Coded → Type 0
OpensStream f = IsPlainStart f ⊎ ((k : Carried) × CarriesUnits f k)

-- There is a frame. All have its configuration, all are frames under it, and a stream may begin with the first.
abbrev pub IsWholeStream : List Coded → Type 0
IsWholeStream [] = ⊥
IsWholeStream (f ∷ fs) = All (λ g. g.config ≡ f.config) (f ∷ fs) × All IsCoded (f ∷ fs) × OpensStream f

-- the configuration of a stream
abbrev pub stream_config : List Coded → Option UsacConfig
stream_config [] = None
stream_config (f ∷ fs) = Some f.config
