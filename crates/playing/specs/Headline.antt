-- The headline: what `play FILE` writes and answers, where FILE carries the splice of whole streams at sound joins, and where it
-- is any other file.
use Rattle.std.specs.Prelude.{◌≡◌, ℕ, List, [], map, ◌⊎◌, None}
use Rattle.std.specs.List.{AllZip}
use Rattle.plans.specs.Parts.{Part, spliced}
use Rattle.plans.specs.OwnPlan.{own_plan}
use Rattle.plans.specs.SoundPlan.{IsSoundPlan}
use Rattle.core_iface.specs.Decoding.{Definitions}
use Rattle.switch_player.specs.Cuts.{cut_plan}
use Rattle.switch_player.specs.Splices.{IsBlockOf}
use Rattle.tool_text.specs.declared.refusal.Refusal.{Refusal}
use Rattle.tool_text.specs.RefusalText.{refusal_text}
use Rattle.au_stream.specs.Frames.{Frame}
use Rattle.au_stream.specs.Script.{End, TooLarge}
use Rattle.commands.specs.Ending.{Traces, IsRefused, Passes}
use Rattle.commands.specs.Ran.{Notes, Noted}
use Rattle.commands.specs.Texts.{large_text}
use Rattle.playing.specs.Playing.{playing}
use Rattle.playing.specs.FileAnswers.{WroteBytes}
use Rattle.playing.specs.Spliced.{coded, CarriesSplice, CarriesNoSplice, CarriesOwn, plan_bytes, own_bytes}

-- Status 0: the bytes of the plan were written, and nothing was noted. The plan's cut has one block for each frame of the timeline,
-- in order, with the samples of that frame and no others.
pub record AnswersPlan (d : Definitions) (plan : List Part) (t : Traces) (n : Notes) (status : ℕ) : Type 0 where
  pub status_is : status ≡ 0
  pub wrote : WroteBytes t (plan_bytes d plan)
  pub each : AllZip IsBlockOf (spliced plan) (cut_plan d plan)
  pub quiet : n.after ≡ n.before

-- Status 0, of a file all of whose frames are taken.
pub record AnswersFrames (d : Definitions) (text : List ℕ) (t : Traces) (n : Notes) (status : ℕ) : Type 0 where
  pub frames : List Frame
  pub passes : Passes (playing d []) text frames End
  pub answers : AnswersPlan d (own_plan (map coded frames)) t n status

-- Status 1: the file is refused at its first faulty frame, or where its next frame would begin. The line of the refusal was noted,
-- and the samples of the frames before were written.
pub record AnswersRefusal (d : Definitions) (text : List ℕ) (t : Traces) (n : Notes) (status : ℕ) : Type 0 where
  pub status_is : status ≡ 1
  pub frames : List Frame
  pub reason : Refusal
  pub refused : IsRefused (playing d []) text frames reason t
  pub wrote : WroteBytes t (own_bytes d frames)
  pub noted : Noted n (refusal_text None reason)

-- Status 7: the file has more bytes than count, and no frame in them is refused. Their samples were written.
pub record AnswersLarge (d : Definitions) (text : List ℕ) (t : Traces) (n : Notes) (status : ℕ) : Type 0 where
  pub status_is : status ≡ 7
  pub frames : List Frame
  pub passes : Passes (playing d []) text frames TooLarge
  pub wrote : WroteBytes t (own_bytes d frames)
  pub noted : Noted n large_text

-- What is answered to `play` of a file with these bytes. Status 6, out of memory, is always free.
pub record AnswersSplices (d : Definitions) (text : List ℕ) (t : Traces) (n : Notes) (status : ℕ) : Type 0 where
  -- Where the file carries the splice of whole streams at sound joins, each frame of the timeline is written once, in order, with
  -- the samples of its own stream decoded alone, and with the fades of fading joins.
  pub splice : (plan : List Part) → IsSoundPlan d.warm plan → CarriesSplice text plan → AnswersPlan d plan t n status ⊎ (status ≡ 6)
  -- Any other file is refused at its first faulty frame, behind the samples of the frames before it, or has too many bytes.
  pub other : CarriesNoSplice d text → AnswersRefusal d text t n status ⊎ (AnswersLarge d text t n status ⊎ (status ≡ 6))
  -- A file is played to its end only where it carries such a splice: that of its own segments.
  pub own : status ≡ 0 → CarriesOwn d text
  -- No other answer comes than that of the file's frames, so a file that no rule refuses is played.
  pub verdict : AnswersFrames d text t n status ⊎ (AnswersRefusal d text t n status ⊎ (AnswersLarge d text t n status ⊎ (status ≡ 6)))
  pub taken : (frames : List Frame) → Passes (playing d []) text frames End → AnswersPlan d (own_plan (map coded frames)) t n status ⊎ (status ≡ 6)
