-- The elements of a source that were read so far, and what reading the next one does.
use Rattle.std.specs.Prelude.{◌≡◌, ℕ, List, [], ◌∷◌, ◌++◌, length, slice_get, Option, Some, None, Result, Ok, Err}
use Rattle.layout.specs.Text.{bits_of}
use Rattle.latm.specs.declared.mux_config.MuxConfig.{MuxConfig}
use Rattle.latm.specs.declared.mux_element.MuxElement.{MuxElement}
use Rattle.latm.specs.MuxElement.{element}
use Rattle.au_stream.specs.declared.fault.StreamFault.{StreamFault}
use Rattle.au_stream.specs.declared.fault.StreamFault.TheVariants.{ReadFault, TooLarge, Loas, Mux, Memory}
use Rattle.au_stream.specs.Elements.{IsElement, in_force_behind}
use Rattle.au_stream.specs.Frames.{frames_from}

-- the StreamMuxConfig of an element, where there is one that has one
abbrev pub own_config : Option MuxElement → Option MuxConfig
own_config None = None
own_config (Some e) = e.config

-- the StreamMuxConfig of the element at a place
abbrev pub config_at : List MuxElement → Option ℕ → Option MuxConfig
config_at elements None = None
config_at elements (Some place) = own_config (slice_get elements place)

-- How the bytes of one more element are answered: as the element that stands behind the others then, or by their fault.
abbrev pub Adds : List ℕ → List MuxElement → List MuxElement → Result (Unit {0}) StreamFault → Type 0
Adds body old new (Ok _) = (e : MuxElement) × IsElement (in_force_behind None old) e body × (new ≡ old ++ e ∷ [])
Adds body old new (Err (Mux frame fault)) =
    (frame ≡ length (frames_from None old)) × (let L = element (in_force_behind None old) in L.Faults 0 fault (bits_of body))
Adds body old new (Err (Memory e)) = Unit {0}
Adds body old new (Err ReadFault) = ⊥
Adds body old new (Err TooLarge) = ⊥
Adds body old new (Err (Loas fault)) = ⊥
