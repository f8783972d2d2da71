-- A frame of a stream: an access unit, with the configuration that is in force for it. It is what a packager cuts and puts
-- together: no sample of it is known yet.
use Rattle.std.specs.Prelude.{ℕ, List}
use Rattle.usac_cfg.specs.declared.usac_config.UsacConfig.{UsacConfig}
use Rattle.usac_cfg.specs.UsacConfig.{IsWellFormed}
use Rattle.usac_frame.specs.declared.frame.Frame.{Frame}
use Rattle.usac_frame.specs.AccessUnit.{IsFrame}
use Rattle.preroll.specs.Carried.{Carries}
use Rattle.preroll.specs.Carrying.{Carried, Shown, shown}

pub record Coded : Type 0 where
  pub config : UsacConfig
  pub au : List ℕ

-- what it shows: its unit, and what it carries
abbrev pub coded_shown : Coded → Shown
coded_shown f = shown f.config f.au

-- The configuration is well formed, and the access unit is a frame under it.
pub record IsCoded (f : Coded) : Type 0 where
  pub config : IsWellFormed f.config
  pub frame : Frame
  pub is : IsFrame f.config f.au frame

-- The access unit is a frame that breaks no rule of prerolls, and this is what it carries.
pub record CarriesUnits (f : Coded) (k : Carried) : Type 0 where
  pub frame : Frame
  pub is : IsFrame f.config f.au frame
  pub carries : Carries f.config frame k.fade k.units
