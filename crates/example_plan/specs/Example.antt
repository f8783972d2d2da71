-- An example: two streams, and a plan that joins the second to the first with a fade. Their access units are so short that they
-- can be read bit by bit.
use Rattle.std.specs.Prelude.{ℕ, true, false, List, [], ◌∷◌, ◌++◌, map, None}
use Rattle.usac_cfg.specs.declared.usac_config.UsacConfig.{UsacConfig}
use Rattle.usac_cfg.specs.declared.element_config.ElementConfig.TheVariants.{Single, Ext}
use Rattle.preroll.specs.Carrying.{Carried}
use Rattle.plans.specs.Coded.{Coded}
use Rattle.plans.specs.Parts.{Part}

-- 48,000 Hz, frames of 1024 samples, one channel. Element 0 is a preroll, and element 1 a channel with noise filling. The
-- extension is the identifier of the stream.
abbrev pub mono : ℕ → UsacConfig
mono id = record {
  rate_index = 3;
  rate_explicit = 0;
  frame_index = 1;
  channel_index = 1;
  positions = [];
  elements = Ext (record { kind = 3; default_length = 0; frag = false; bytes = [] }) ∷ Single (record { tw_mdct = false; noise_filling = true }) None ∷ [];
  extensions = record { kind = 7; bytes = 0 ∷ id ∷ [] } ∷ [];
}

abbrev pub old_config : UsacConfig
old_config = mono 1

abbrev pub new_config : UsacConfig
new_config = mono 2

-- a frame of one byte
abbrev pub short_frame : UsacConfig → ℕ → Coded
short_frame c b = record { config = c; au = b ∷ [] }

-- The first bit of a short frame says whether it is independent; the second one is 0: it has no preroll.
abbrev pub old_stream : List Coded
old_stream = map (short_frame old_config) (0xA0 ∷ 0x10 ∷ 0x08 ∷ 0x84 ∷ 0x82 ∷ 0x01 ∷ 0x30 ∷ 0x18 ∷ [])

-- Bit by bit: 1, independent; 1, a preroll is there; 0 and 00001100, it has 12 bytes. These have 1000, 8 bytes of configuration,
-- which are `19 08 E6 00 C7 20 00 20`; 1, applyCrossfade; 0; 01, one unit; 0000000000000001, of one byte, which is `81`. Behind
-- the preroll stand 11 and zeros.
abbrev pub joining_frame : Coded
joining_frame = record {
  config = new_config;
  au = 0xC1 ∷ 0x90 ∷ 0x32 ∷ 0x11 ∷ 0xCC ∷ 0x01 ∷ 0x8E ∷ 0x40 ∷ 0x00 ∷ 0x41 ∷ 0x20 ∷ 0x00 ∷ 0x30 ∷ 0x38 ∷ 0x00 ∷ [];
}

-- Its frame 4 carries the unit of its frame 3.
abbrev pub new_stream : List Coded
new_stream = map (short_frame new_config) (0x90 ∷ 0x04 ∷ 0x20 ∷ 0x81 ∷ []) ++ joining_frame ∷ map (short_frame new_config) (0x02 ∷ 0x28 ∷ 0x09 ∷ [])

-- The first four frames of the old stream, and the new one from its frame 4 to its end.
abbrev pub example : List Part
example = record { stream = old_stream; from = 0; to = 4 } ∷ record { stream = new_stream; from = 4; to = 8 } ∷ []

-- What the join carries: it fades, and the one unit is that of `81`, which is independent, has no preroll and then 000001.
abbrev pub joining : Carried
joining = record { fade = true; units = record { independent = true; bits = false ∷ false ∷ false ∷ false ∷ false ∷ true ∷ [] } ∷ [] }
