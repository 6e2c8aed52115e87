-- Each return is a test of the whole path, which is one of the slices, since the path itself is within the limits.
use mathlib.Core.Path.{ap, sym, ◌∙◌}
use native.Mathlib.Omega.{arith}
use Rattle.packed.specs.LentPaths.{path_of}
use Rattle.extension.specs.Extending.{outcome_refusal}
use Rattle.extension.proofs.AdmissionLaws.{Within, formed_within, judge_lengths, judge_long, judge_many, judge_wide, judge_fine, judge_admitted}
use Rattle.extension.proofs.inner.admit.Goals as goal
use Rattle.extension.proofs.inner.admit.Goals.{Start}

known : (c : Start) → Within c.args.limits (path_of c.args.path)
known c = formed_within c.args.limits c.args.path.bytes.now c.args.path.count c.requires c.args.path.readable.within

pub returns-then-not-lengths_fit : goal.returns-then-not-lengths_fit
returns-then-not-lengths_fit c = record { refusal = ap outcome_refusal (judge_lengths _ _ _ _ (sym c.lengths_fit.ensures ∙ c.if-not-lengths_fit.true)); admitted = tt }

pub overflow_sub-room : goal.overflow_sub-room
overflow_sub-room c = let f = (known (goal.at.overflow_sub-room c).Start).short in let e = c.path_length.ensures in omega arith

pub returns-then-room-bytes : goal.returns-then-room-bytes
returns-then-room-bytes c = record { refusal = ap outcome_refusal (judge_long _ _ _ _ (known (goal.at.returns-then-room-bytes c).Start) (sym c.lengths_fit.ensures ∙ c.if-not-lengths_fit.false) _ c.path_length.ensures c.if-room-bytes.true); admitted = tt }

pub overflow_sub-places : goal.overflow_sub-places
overflow_sub-places c = let f = (known (goal.at.overflow_sub-places c).Start).few in let e = c.component_count.ensures in omega arith

pub returns-then-places-lengths : goal.returns-then-places-lengths
returns-then-places-lengths c = record { refusal = ap outcome_refusal (judge_many _ _ _ _ (known (goal.at.returns-then-places-lengths c).Start) (sym c.lengths_fit.ensures ∙ c.if-not-lengths_fit.false) _ c.path_length.ensures c.if-room-bytes.false _ c.component_count.ensures c.if-places-lengths.true); admitted = tt }

pub returns-then-not-lengths_within : goal.returns-then-not-lengths_within
returns-then-not-lengths_within c = record { refusal = ap outcome_refusal (judge_wide _ _ _ _ (known (goal.at.returns-then-not-lengths_within c).Start) (sym c.lengths_fit.ensures ∙ c.if-not-lengths_fit.false) _ c.path_length.ensures c.if-room-bytes.false _ c.component_count.ensures c.if-places-lengths.false (sym c.lengths_within.ensures ∙ c.if-not-lengths_within.true)); admitted = tt }

pub returns : goal.returns
returns c =
    let w = known (goal.at.returns c).Start in
    let e = sym c.lengths_fit.ensures ∙ c.if-not-lengths_fit.false in
    let n = sym c.lengths_within.ensures ∙ c.if-not-lengths_within.false in
    record {
      refusal = ap outcome_refusal (judge_fine _ _ _ _ w e _ c.path_length.ensures c.if-room-bytes.false _ c.component_count.ensures c.if-places-lengths.false n);
      admitted = judge_admitted _ _ _ _ w e _ c.path_length.ensures c.if-room-bytes.false _ c.component_count.ensures c.if-places-lengths.false n;
    }
