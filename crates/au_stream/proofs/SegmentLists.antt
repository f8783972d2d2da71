-- The segments of frames and of one frame more.
use Rattle.std.proofs.Common.{◌≡◌, ◌+◌, ◌≤◌, Bool, true, false, List, [], ◌∷◌, ◌++◌, length, Option, Some, None, refl, sym, ap, ◌∙◌, append_assoc, arith}
use Rattle.std.specs.Prelude.{◌≢◌}
use Rattle.std.specs.List.{flat_map, AllByRecursion}
use Rattle.std.specs.Option.{option_map}
use Rattle.std.proofs.lemmas.List.{length-append, append-nil}
use Rattle.std.proofs.lemmas.Grind.{flat_map-append}
use Rattle.layout.specs.Text.{digit}
use Rattle.layout.proofs.Every.{all_append}
use Rattle.layout.proofs.Layouts.{some_is}
use Rattle.usac_cfg.specs.declared.usac_config.UsacConfig.{UsacConfig}
use Rattle.au_stream.specs.Frames.{Frame, config_of, last_of, IsChange, IsSame, TellsChange}
use Rattle.au_stream.specs.Segments.{Segment, IsRun, AreApart, AreSegments, last_config, Split}

pub none_split : Split [] []
none_split = record { are = record { joined = refl; runs = tt; apart = tt }; last = refl }

-- ---- one segment more

abbrev alone : Frame → Segment
alone f = record { config = config_of f; frames = f ∷ [] }

apart_push : (ss : List Segment) (t : Segment) → AreApart ss → ((c : UsacConfig) → last_config ss ≡ Some c → c ≢ t.config) → AreApart (ss ++ t ∷ [])
apart_push [] t a other = tt
apart_push (s ∷ []) t a other = (other s.config refl, tt)
apart_push (s ∷ u ∷ ss) t a other = (a.0, apart_push (u ∷ ss) t a.1 other)

last_config-push : (ss : List Segment) (t : Segment) → last_config (ss ++ t ∷ []) ≡ Some t.config
last_config-push [] t = refl
last_config-push (s ∷ []) t = refl
last_config-push (s ∷ u ∷ ss) t = last_config-push (u ∷ ss) t

changed_config : (last : Option Frame) (f : Frame) (c : UsacConfig) → IsChange last f → option_map config_of last ≡ Some c → c ≢ config_of f
changed_config None f c change is = absurd cc
changed_config (Some g) f c change is = λ same. change (some_is (config_of g) c is ∙ same)

begun : (fs : List Frame) (ss : List Segment) (f : Frame) → Split fs ss → IsChange (last_of fs) f → AreSegments (fs ++ f ∷ []) (ss ++ alone f ∷ [])
begun fs ss f s change = record {
  joined = flat_map-append (λ (x : Segment). x.frames) ss (alone f ∷ []) ∙ ap (λ (x : List Frame). x ++ f ∷ []) s.are.joined;
  runs = all_append IsRun ss (alone f ∷ []) s.are.runs (record { some = omega arith; one = (refl, tt) }, tt);
  apart = apart_push ss (alone f) s.are.apart (λ c is. changed_config (last_of fs) f c change (sym s.last ∙ is));
}

-- ---- one frame more in the last segment

abbrev with_frame : Segment → Frame → Segment
with_frame s f = record { config = s.config; frames = s.frames ++ f ∷ [] }

abbrev grown : List Segment → Frame → List Segment
grown [] f = []
grown (s ∷ []) f = with_frame s f ∷ []
grown (s ∷ t ∷ ss) f = s ∷ grown (t ∷ ss) f

grown_length : (ss : List Segment) (f : Frame) → length (grown ss f) ≡ length ss
grown_length [] f = refl
grown_length (s ∷ []) f = refl
grown_length (s ∷ t ∷ ss) f = omega (arith, grown_length (t ∷ ss) f)

grown_last : (ss : List Segment) (f : Frame) → last_config (grown ss f) ≡ last_config ss
grown_last [] f = refl
grown_last (s ∷ []) f = refl
grown_last (s ∷ t ∷ []) f = refl
grown_last (s ∷ t ∷ u ∷ ss) f = grown_last (t ∷ u ∷ ss) f

grown_apart : (ss : List Segment) (f : Frame) → AreApart ss → AreApart (grown ss f)
grown_apart [] f a = tt
grown_apart (s ∷ []) f a = tt
grown_apart (s ∷ t ∷ []) f a = a
grown_apart (s ∷ t ∷ u ∷ ss) f a = (a.0, grown_apart (t ∷ u ∷ ss) f a.1)

grown_joined : (ss : List Segment) (f : Frame) (c : UsacConfig) → last_config ss ≡ Some c → flat_map (λ (x : Segment). x.frames) (grown ss f) ≡ flat_map (λ (x : Segment). x.frames) ss ++ f ∷ []
grown_joined [] f c is = absurd cc
grown_joined (s ∷ []) f c is = append_assoc s.frames (f ∷ []) [] ∙ sym (ap (λ (x : List Frame). x ++ f ∷ []) (append-nil s.frames))
grown_joined (s ∷ t ∷ ss) f c is = ap (λ (x : List Frame). s.frames ++ x) (grown_joined (t ∷ ss) f c is) ∙ sym (append_assoc s.frames (flat_map (λ (x : Segment). x.frames) (t ∷ ss)) (f ∷ []))

grown_runs : (ss : List Segment) (f : Frame) → AllByRecursion IsRun ss → last_config ss ≡ Some (config_of f) → AllByRecursion IsRun (grown ss f)
grown_runs [] f runs is = tt
grown_runs (s ∷ []) f runs is =
    let same : config_of f ≡ s.config = sym (some_is s.config (config_of f) is) in (
      record {
        some = omega (arith, length-append s.frames (f ∷ []));
        one = all_append (λ (g : Frame). config_of g ≡ s.config) s.frames (f ∷ []) runs.0.one (same, tt);
      },
      tt,
    )
grown_runs (s ∷ t ∷ ss) f runs is = (runs.0, grown_runs (t ∷ ss) f runs.1 is)

same_config : (last : Option Frame) (f : Frame) → IsSame last f → option_map config_of last ≡ Some (config_of f)
same_config None f same = absurd same
same_config (Some g) f same = ap (λ (c : UsacConfig). Some c) same

went_on : (fs : List Frame) (ss : List Segment) (f : Frame) → Split fs ss → IsSame (last_of fs) f → AreSegments (fs ++ f ∷ []) (grown ss f)
went_on fs ss f s same =
    let is : last_config ss ≡ Some (config_of f) = s.last ∙ same_config (last_of fs) f same in
    record {
      joined = grown_joined ss f (config_of f) is ∙ ap (λ (x : List Frame). x ++ f ∷ []) s.are.joined;
      runs = grown_runs ss f s.are.runs is;
      apart = grown_apart ss f s.are.apart;
    }

-- ---- either

last_frame : (fs : List Frame) (f : Frame) → last_of (fs ++ f ∷ []) ≡ Some f
last_frame [] f = refl
last_frame (g ∷ []) f = refl
last_frame (g ∷ h ∷ fs) f = last_frame (h ∷ fs) f

-- one segment more where the frame is a change
pub split_more : (fs : List Frame) (ss : List Segment) (f : Frame) (changed : Bool) → Split fs ss → TellsChange changed (last_of fs) f
    → (more : List Segment) × Split (fs ++ f ∷ []) more × (length more ≡ length ss + digit changed)
split_more fs ss f true s tells = (
  ss ++ alone f ∷ [],
  record { are = begun fs ss f s (tells.0 refl); last = last_config-push ss (alone f) ∙ sym (ap (option_map config_of) (last_frame fs f)) },
  length-append ss (alone f ∷ []),
)
split_more fs ss f false s tells =
    let same = tells.1 refl in (
      grown ss f,
      record { are = went_on fs ss f s same; last = grown_last ss f ∙ s.last ∙ same_config (last_of fs) f same ∙ sym (ap (option_map config_of) (last_frame fs f)) },
      omega (arith, grown_length ss f),
    )

-- there are no more segments than frames
runs_few : (ss : List Segment) → AllByRecursion IsRun ss → length ss ≤ length (flat_map (λ (x : Segment). x.frames) ss)
runs_few [] runs = omega arith
runs_few (s ∷ ss) runs = omega (arith, runs.0.some, runs_few ss runs.1, length-append s.frames (flat_map (λ (x : Segment). x.frames) ss))

pub segments_few : (fs : List Frame) (ss : List Segment) → AreSegments fs ss → length ss ≤ length fs
segments_few fs ss are = omega (arith, runs_few ss are.runs, ap (λ (x : List Frame). length x) are.joined)
