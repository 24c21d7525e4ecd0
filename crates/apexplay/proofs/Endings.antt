-- How a run over a reader and a writer ends. `play` wants `no_room` and `run_ends`.
use Rattle.std.proofs.Common.{◌≡◌, ◌⊎◌, inl, inr, ℕ, List, [], ◌++◌, Option, Some, None, sym, ap, ◌∙◌, subst, refl}
use Rattle.std.proofs.Common.{arith, append_assoc}
use Rattle.std.specs.Prelude.{◌↔◌, String}
use Rattle.std.specs.List.{All}
use Rattle.std.specs.declared.alloc.Global.{Global}
use Rattle.std.specs.Io.KnownBytes.{Keeps, append_known}
use Rattle.std.proofs.lemmas.List.{append-nil}
use Rattle.apex_base.specs.Outside.{PutAll, PutFront}
use Rattle.apex_world.specs.declared.script.Script.{Script}
use Rattle.apex_world.specs.declared.turns.Fate.TheVariants.{Answered}
use Rattle.apex_world.specs.declared.turns.TurnRow.{TurnRow}
use Rattle.apex_world.specs.Text.{out}
use Rattle.apex_world.specs.Turns.{Fits, IsInOrder}
use Rattle.device_script.specs.declared.fault.ScriptWhy.{ScriptWhy}
use Rattle.device_play.specs.declared.status.Status.{Status}
use Rattle.device_play.specs.declared.status.Status.TheVariants as status
use Rattle.device_play.specs.Headline.{Plays, HasScript, HasNoScript, IsRefused, HasBadLine, IsSilent}
use Rattle.device_play.specs.Source.{Ended, TakesAtMost}
use Rattle.device_play.proofs.PlayedLemmas.{none_in_order}
use Rattle.device_play.proofs.Sources.{TakesAtMost-none}
use Rattle.apexplay.specs.Ending.{HoldsFront, IsRun}

-- Bytes

-- a writer that was given nothing
holds_all : (held : Option (List ℕ)) (text : List ℕ) → HoldsFront held held text
holds_all None text = tt
holds_all (Some xs) text = (text, refl)

-- an adapter that holds nothing yet tells what its writer tells
pub held_at_first : {W : Type 0} (contents : W → Option (List ℕ)) (first writer : W) (gathered : List ℕ)
    → first ≡ writer → gathered ≡ [] → append_known (contents first) gathered ≡ append_known (contents writer) []
held_at_first contents first writer gathered same none =
    ap (append_known (contents first)) none ∙ ap (λ w. append_known (contents w) []) same

-- what a sink was put and has written, while the rest is gathered
pub record IsPut (before after : Option (List ℕ)) (gathered : List ℕ) (held held' held'' : Option (List ℕ)) : Type 0
  where
    pub start : held ≡ append_known before []
    pub kept : Keeps held' held''
    pub end : held'' ≡ append_known after gathered

front_here : (before after : Option (List ℕ)) (gathered text : List ℕ) (held' : Option (List ℕ))
    → PutFront (append_known before []) held' text → Keeps held' (append_known after gathered)
    → HoldsFront before after text
front_here None after gathered text held' put kept = tt
front_here (Some xs) after gathered text None put kept = absurd put
front_here (Some xs) None gathered text (Some ys) put kept = absurd kept
front_here (Some xs) (Some zs) gathered text (Some ys) put kept =
    let front = put.0 in
    let rest = put.2.0 in
    let written : zs ++ gathered ≡ xs ++ front = kept ∙ put.1 ∙ ap (λ l. l ++ front) (append-nil xs) in (
      gathered ++ rest,
      ap (λ l. xs ++ l) put.2.1 ∙ sym (append_assoc xs front rest) ∙ ap (λ l. l ++ rest) (sym written)
          ∙ append_assoc zs gathered rest,
    )

whole_here : (before after : Option (List ℕ)) (text : List ℕ) (held' : Option (List ℕ))
    → PutAll (append_known before []) held' text → Keeps held' (append_known after []) → PutAll before after text
whole_here None after text held' put kept = tt
whole_here (Some xs) after text None put kept = absurd put
whole_here (Some xs) None text (Some ys) put kept = absurd kept
whole_here (Some xs) (Some zs) text (Some ys) put kept =
    sym (append-nil zs) ∙ kept ∙ put ∙ ap (λ l. l ++ text) (append-nil xs)

-- the writer holds a front of what was put
front_of : (before after : Option (List ℕ)) (gathered text : List ℕ) (held held' held'' : Option (List ℕ))
    → IsPut before after gathered held held' held'' → PutFront held held' text → HoldsFront before after text
front_of before after gathered text held held' held'' is put =
    front_here before after gathered text held' (subst (λ h. PutFront h held' text) is.start put)
    (subst (Keeps held') is.end is.kept)

-- and all of it where nothing is gathered
whole_of : (before after : Option (List ℕ)) (gathered text : List ℕ) (held held' held'' : Option (List ℕ))
    → IsPut before after gathered held held' held'' → gathered ≡ [] → PutAll held held' text → PutAll before after text
whole_of before after gathered text held held' held'' is none put =
    whole_here before after text held' (subst (λ h. PutAll h held' text) is.start put)
    (subst (λ l. Keeps held' (append_known after l)) none (subst (Keeps held') is.end is.kept))

-- nothing is a front of nothing
front_of-none : (held held' : Option (List ℕ)) → PutAll held held' [] → PutFront held held' []
front_of-none None held' put = tt
front_of-none (Some xs) None put = absurd put
front_of-none (Some xs) (Some ys) put = ([], put, ([], refl))

-- Statuses

bad_line-memory : (left : Option (List ℕ)) → HasBadLine left status.Memory
bad_line-memory None = tt
bad_line-memory (Some bytes) = tt

bad_line-sink : (left : Option (List ℕ)) → HasBadLine left status.SinkFault
bad_line-sink None = tt
bad_line-sink (Some bytes) = tt

none_answered : All (λ (row : TurnRow). row.fate ≡ Answered) []
none_answered = λ k d lt. absurd (omega arith)

-- a run without room for its text
pub no_room : (words : List (String Global)) (left before : Option (List ℕ))
    → IsRun words left left before before status.Memory
no_room words left before = record {
  text = λ script has. record {
    turns = [];
    in_order = none_in_order script [] refl;
    answered = none_answered;
    front = holds_all before (out script []);
    all_turns = λ e. absurd (cc);
    whole = λ e. absurd (cc);
  };
  emptied = λ e. absurd (cc);
  silent = λ is. absurd is;
  no_script = λ why has. holds_all before [];
  usage = λ e. absurd (cc);
  no_command = λ no. inr refl;
  bad_line = bad_line-memory left;
  refused = λ why has not. tt;
  taken = λ not. TakesAtMost-none left 16777217;
}

-- what `apex_play` says of a run over a source and a sink
pub record IsPlayed (words : List (String Global)) (left left' held held' : Option (List ℕ)) (s : Status)
    (turns : List TurnRow) : Type 0 where
  pub text : (script : Script) → HasScript left script → PutFront held held' (out script turns)
  pub whole_text : (script : Script) → HasScript left script → s ≡ status.Done → PutAll held held' (out script turns)
  pub emptied : s ≡ status.Done → Ended left left'
  pub in_order : (script : Script) → HasScript left script → IsInOrder script turns
  pub all_turns : (script : Script) → HasScript left script → s ≡ status.Done → Fits script turns
  pub answered : All (λ (row : TurnRow). row.fate ≡ Answered) turns
  pub silent : IsSilent s → PutAll held held' []
  pub no_script : (why : ScriptWhy) → HasNoScript left why → PutAll held held' []
  pub usage : (s ≡ status.Usage) ↔ (¬ (Plays words))
  pub bad_line : HasBadLine left s
  pub refused : (why : ScriptWhy) → HasNoScript left why → IsRefused s why
  pub taken : (¬ (s ≡ status.SourceFault)) → TakesAtMost 16777217 left left'

-- how the last write turns a status
pub record IsTurned (s t : Status) : Type 0 where
  pub refused : IsSilent s → t ≡ s
  pub failed : (t ≡ s) ⊎ (t ≡ status.SinkFault)

done_before : (s t : Status) → t ≡ status.Done → (t ≡ s) ⊎ (t ≡ status.SinkFault) → s ≡ status.Done
done_before s t done (inl same) = sym same ∙ done
done_before s t done (inr fault) = absurd (cc)

usage_before : (s t : Status) → t ≡ status.Usage → (t ≡ s) ⊎ (t ≡ status.SinkFault) → s ≡ status.Usage
usage_before s t usage (inl same) = sym same ∙ usage
usage_before s t usage (inr fault) = absurd (cc)

silent_before : (s t : Status) → IsSilent t → (t ≡ s) ⊎ (t ≡ status.SinkFault) → IsSilent s
silent_before s t silent (inl same) = subst IsSilent same silent
silent_before s t silent (inr fault) = absurd (subst IsSilent fault silent)

bad_line_then : (left : Option (List ℕ)) (s t : Status) → HasBadLine left s → (t ≡ s) ⊎ (t ≡ status.SinkFault)
    → HasBadLine left t
bad_line_then left s t bad (inl same) = subst (HasBadLine left) (sym same) bad
bad_line_then left s t bad (inr fault) = subst (HasBadLine left) (sym fault) (bad_line-sink left)

refused_then : (why : ScriptWhy) (s t : Status) → IsRefused s why → (¬ (t ≡ status.SinkFault))
    → (t ≡ s) ⊎ (t ≡ status.SinkFault) → IsRefused t why
refused_then why s t refused not (inl same) = subst (λ u. IsRefused u why) (sym same) refused
refused_then why s t refused not (inr fault) = absurd (not fault)

-- a run whose rest was written, or not
pub run_ends : (words : List (String Global)) (left left' before after : Option (List ℕ)) (gathered : List ℕ)
    (held held' held'' : Option (List ℕ)) (s t : Status) (turns : List TurnRow)
    → IsPlayed words left left' held held' s turns → IsPut before after gathered held held' held'' → IsTurned s t
    → (t ≡ status.Done → gathered ≡ []) → IsRun words left left' before after t
run_ends words left left' before after gathered held held' held'' s t turns played put turned written = record {
  text = λ script has. record {
    turns = turns;
    in_order = played.in_order script has;
    answered = played.answered;
    front = front_of before after gathered (out script turns) held held' held'' put (played.text script has);
    all_turns = λ done. played.all_turns script has (done_before s t done turned.failed);
    whole = λ done. whole_of before after gathered (out script turns) held held' held'' put (written done)
        (played.whole_text script has (done_before s t done turned.failed));
  };
  emptied = λ done. played.emptied (done_before s t done turned.failed);
  silent = λ is. front_of before after gathered [] held held' held'' put
      (front_of-none held held' (played.silent (silent_before s t is turned.failed)));
  no_script = λ why has. front_of before after gathered [] held held' held'' put
      (front_of-none held held' (played.no_script why has));
  usage = λ usage. played.usage.0 (usage_before s t usage turned.failed);
  no_command = λ no. let usage = played.usage.1 no in inl (turned.refused (subst IsSilent (sym usage) tt) ∙ usage);
  bad_line = bad_line_then left s t played.bad_line turned.failed;
  refused = λ why has not. refused_then why s t (played.refused why has) not turned.failed;
  taken = λ not. played.taken (λ source. not (turned.refused (subst IsSilent (sym source) tt) ∙ source));
}
