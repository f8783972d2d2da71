use Rattle.std.proofs.Common.{◌∙◌, [], None, refl, sym}
use Rattle.std.proofs.lemmas.Result.{err_from_is_err_and}
use Rattle.latm.specs.Stream.{frames_of}
use Rattle.ipf_insert.specs.declared.sources.Sources.{Sources}
use Rattle.ipf_insert.specs.Steps.{settled}
use Rattle.ipf_insert.proofs.Elements.{aus_of, all_framable}
use Rattle.ipf_insert.proofs.Standing.{first_config, configs_in, settled_is, list_refused, targets_refused, listed, ready}
use Rattle.ipf_insert.proofs.MayChange.{may_all}
use Rattle.ipf_insert.proofs.Writable.{writable_from, all_kept}
use Rattle.ipf_insert.proofs.streams.inserter.Goals as goal

pub gather-requires-clause-first : goal.gather-requires-clause-first
gather-requires-clause-first c = first_config (frames_of c.args.stream.now) c.in-Some.config.now c.in-Some.ensures (configs_in c.args.stream.now c.requires)

pub config_bytes-requires : goal.config_bytes-requires
config_bytes-requires c = first_config (frames_of c.args.stream.now) c.in-Some.config.now c.in-Some.ensures (configs_in c.args.stream.now c.requires)

pub returns-in_err-check_list : goal.returns-in_err-check_list
returns-in_err-check_list c =
    let s = c.args.stream.now in
    let x : Sources = record { config = c.in-Some.config; bytes = c.in_ok-bytes.bytes; aus = c.in_ok-aus.aus; count = c.from.result; fade = c.args.fade } in
    let found = settled_is (frames_of s) x.config.now (settled x).aus x.count x.fade c.in-Some.ensures c.in_ok-aus.ensures.1 in
    let p = err_from_is_err_and c.from_residual-in_err-check_list.result c.from_residual-in_err-check_list.ensures.1 in
    rw (p.1, p.2) (list_refused s (settled x) c.args.targets.now found c.args.count c.from.ensures c.in_ok-aus.ensures.0 c.in_err-check_list.field-0.0 c.in_err-check_list.ensures)

pub check_targets-requires-clause-ready : goal.check_targets-requires-clause-ready
check_targets-requires-clause-ready c =
    let s = c.args.stream.now in
    let x : Sources = record { config = c.in-Some.config; bytes = c.in_ok-bytes.bytes; aus = c.in_ok-aus.aus; count = c.from.result; fade = c.args.fade } in
    ready s x c.args.targets.now c.requires (first_config (frames_of s) x.config.now c.in-Some.ensures (configs_in s c.requires)) c.in_ok-aus.ensures.1 c.in_ok-bytes.ensures c.in_ok-aus.ensures.0 c.in_ok-check_list.ensures

pub check_targets-requires-clause-rising : goal.check_targets-requires-clause-rising
check_targets-requires-clause-rising c =
    let x : Sources = record { config = c.in-Some.config; bytes = c.in_ok-bytes.bytes; aus = c.in_ok-aus.aus; count = c.from.result; fade = c.args.fade } in
    let l = listed (settled x) c.args.targets.now c.in_ok-check_list.ensures in
    l.places.rising

pub check_targets-requires-clause-below : goal.check_targets-requires-clause-below
check_targets-requires-clause-below c =
    let x : Sources = record { config = c.in-Some.config; bytes = c.in_ok-bytes.bytes; aus = c.in_ok-aus.aus; count = c.from.result; fade = c.args.fade } in
    let l = listed (settled x) c.args.targets.now c.in_ok-check_list.ensures in
    l.places.below

pub check_targets-requires-clause-from : goal.check_targets-requires-clause-from
check_targets-requires-clause-from c = rw c.as_slice.ensures (c.in_ok-aus.ensures.1 ∙ aus_of None c.args.stream.now.elements c.requires.elements)

pub check_targets-requires-clause-framable : goal.check_targets-requires-clause-framable
check_targets-requires-clause-framable c = rw c.as_slice.ensures (all_framable None c.args.stream.now.elements c.requires.elements)

pub returns-in_err-check_targets : goal.returns-in_err-check_targets
returns-in_err-check_targets c =
    let s = c.args.stream.now in
    let x : Sources = record { config = c.in-Some.config; bytes = c.in_ok-bytes.bytes; aus = c.in_ok-aus.aus; count = c.from.result; fade = c.args.fade } in
    let found = settled_is (frames_of s) x.config.now (settled x).aus x.count x.fade c.in-Some.ensures c.in_ok-aus.ensures.1 in
    let p = err_from_is_err_and c.from_residual-in_err-check_targets.result c.from_residual-in_err-check_targets.ensures.1 in
    rw (p.1, p.2) (targets_refused s (settled x) c.args.targets.now found c.args.count c.from.ensures c.in_ok-aus.ensures.0 c.in_ok-check_list.ensures c.in_err-check_targets.field-0.0 (rw (sym c.as_slice.ensures) c.in_err-check_targets.ensures))

pub new-requires-clause-rising : goal.new-requires-clause-rising
new-requires-clause-rising c =
    let x : Sources = record { config = c.in-Some.config; bytes = c.in_ok-bytes.bytes; aus = c.in_ok-aus.aus; count = c.from.result; fade = c.args.fade } in
    let l = listed (settled x) c.args.targets.now c.in_ok-check_list.ensures in
    l.places.rising

pub new-requires-clause-may : goal.new-requires-clause-may
new-requires-clause-may c =
    let s = c.args.stream.now in
    let targets = c.args.targets.now in
    let x : Sources = record { config = c.in-Some.config; bytes = c.in_ok-bytes.bytes; aus = c.in_ok-aus.aus; count = c.from.result; fade = c.args.fade } in
    let r = ready s x targets c.requires (first_config (frames_of s) x.config.now c.in-Some.ensures (configs_in s c.requires)) c.in_ok-aus.ensures.1 c.in_ok-bytes.ensures c.in_ok-aus.ensures.0 c.in_ok-check_list.ensures in
    let l = listed (settled x) targets c.in_ok-check_list.ensures in
    may_all x targets (frames_of s) r (all_kept (settled x) s.elements [] targets l.places.below (rw (sym c.as_slice.ensures) c.in_ok-check_targets.ensures)) c.in_ok-aus.ensures.1

pub new-requires-clause-writable : goal.new-requires-clause-writable
new-requires-clause-writable c =
    let s = c.args.stream.now in
    let x : Sources = record { config = c.in-Some.config; bytes = c.in_ok-bytes.bytes; aus = c.in_ok-aus.aus; count = c.from.result; fade = c.args.fade } in
    writable_from (settled x) s.elements c.args.targets.now None [] s.elements (rw (sym c.as_slice.ensures) c.in_ok-check_targets.ensures) refl c.requires.elements
