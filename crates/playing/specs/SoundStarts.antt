-- Starts within whole streams, and what `start` writes there.
use Rattle.std.specs.Prelude.{◌≡◌, ◌⊎◌, ℕ, List, [], ◌∷◌, length, map, slice_range}
use Rattle.usac_cfg.specs.declared.usac_config.UsacConfig.{UsacConfig}
use Rattle.plans.specs.Coded.{Coded, coded_shown}
use Rattle.plans.specs.Parts.{Part}
use Rattle.plans.specs.SoundPlan.{IsSoundPlan}
use Rattle.core_iface.specs.Decoding.{Definitions, samples_of}
use Rattle.core_iface.specs.Samples.{sample_bytes}
use Rattle.switch_player.specs.Streams.{alone}
use Rattle.au_stream.specs.Frames.{Frame}
use Rattle.au_stream.specs.Script.{End, IsScript}
use Rattle.commands.specs.Commands.{TakesEnd}
use Rattle.commands.specs.Ending.{Traces, Passes}
use Rattle.commands.specs.Ran.{Notes}
use Rattle.playing.specs.Playing.{output}
use Rattle.playing.specs.Starting.{starting, from_first}
use Rattle.playing.specs.Spliced.{coded}
use Rattle.playing.specs.FileAnswers.{WroteBytes, AnswersFile}

-- a stream from the frame with that number to its end
abbrev pub part_from : List Coded → ℕ → Part
part_from stream first = record { stream = stream; from = first; to = length stream }

-- A sound start: that part alone is a sound plan. So the stream is whole, and the frame is its first one, or one that carries units:
-- those that the stream itself has before it, and as many as the warm-up.
abbrev pub IsSoundStart : (UsacConfig → ℕ) → List Coded → ℕ → Type 0
IsSoundStart warm stream first = IsSoundPlan warm (part_from stream first ∷ [])

-- the sample bytes that the frames from that one on have in the stream decoded alone, from its beginning
abbrev pub bytes_from : Definitions → List Coded → ℕ → List ℕ
bytes_from d stream first = sample_bytes (samples_of (slice_range (alone d (map coded_shown stream)) first (length stream)))

-- The file ends behind its frames, and they are that stream.
abbrev pub CarriesStream : List ℕ → List Coded → Type 0
CarriesStream text stream = (frames : List Frame) × IsScript text frames End × (map coded frames ≡ stream)

-- `start` takes the file to its end, and its output is that of the stream from the frame with that number on.
pub record TakesStart (d : Definitions) (text : List ℕ) (stream : List Coded) (first : ℕ) : Type 0 where
  pub frames : List Frame
  pub passes : Passes (starting d first) text frames End
  pub ends : TakesEnd (starting d first) frames
  pub gives : output d (from_first first frames) ≡ bytes_from d stream first

-- So it is with every file that carries a stream with a sound start there.
abbrev pub TakesSoundStarts : Definitions → Type 0
TakesSoundStarts d = (text : List ℕ) (stream : List Coded) (first : ℕ) → CarriesStream text stream → IsSoundStart d.warm stream first → TakesStart d text stream first

-- Status 0: the bytes of the stream from there on were written, and nothing was noted.
pub record AnswersStream (d : Definitions) (stream : List Coded) (first : ℕ) (t : Traces) (n : Notes) (status : ℕ) : Type 0 where
  pub status_is : status ≡ 0
  pub wrote : WroteBytes t (bytes_from d stream first)
  pub quiet : n.after ≡ n.before

-- What is answered to `start` at the frame with that number, of a file with these bytes. Status 6, out of memory, is always free.
pub record AnswersStart (d : Definitions) (first : ℕ) (text : List ℕ) (t : Traces) (n : Notes) (status : ℕ) : Type 0 where
  -- At a sound start of a whole stream each frame from there on is written, with the samples of the stream decoded alone.
  pub sound : (stream : List Coded) → CarriesStream text stream → IsSoundStart d.warm stream first → AnswersStream d stream first t n status ⊎ (status ≡ 6)
  -- Any file is answered as its frames are, and one that no rule refuses is played from there on.
  pub answers : AnswersFile (starting d first) text t n status
