use Rattle.std.proofs.Common.{◌≡◌, ◌++◌, [], refl, sym, ap, subst, ◌∙◌, append_assoc, append-nil, rules}
use Rattle.std.proofs.lemmas.List.{nil_from_length}
use Rattle.std.proofs.lemmas.Result.{err_from_is_err_and}
use Rattle.json.specs.Print.{escape, escape_byte}
use Rattle.lbk_feed.specs.Devices.{failures_after}
use Rattle.lbk_cmd.specs.Chunking.{Breaks, Passes}
use Rattle.lbk_cmd.specs.Waiting.{waiting_in}
use Rattle.lbk_cmd.proofs.Pushing.{breaks-more, passes-breaks, passes-placed, passes-then}
use Rattle.lbk_cmd.proofs.waiting.Waiting.push_escaped.Goals as goal

pub loop-byte-init : goal.loop-byte-init
loop-byte-init g c = record {
  so_far = ([], refl, passes-placed _ _ _ [] (sym (append-nil _)));
  failures = refl;
}

pub loop-byte-preserved : goal.loop-byte-preserved
loop-byte-preserved g c =
    let l = c.loop-byte in
    let so_far = l.invariant.so_far in
    let byte = escape_byte c.in-Some.byte.now in
    let rest = escape c.in-Some.rest.now in
    let split : escape l.left.now ≡ byte ++ rest = ap escape c.in-Some.ensures.cases.0 in
    let put = passes-then _ _ _ (waiting_in c.make_room.new.self) [] c.in_ok-make_room.ensures.puts.line _ _ byte
    (passes-placed _ (waiting_in c.make_room.new.self) _ byte c.place_escaped-self.ensures.bytes) in
    record {
      so_far = (
        so_far.0 ++ byte,
        append_assoc so_far.0 byte rest ∙ ap (λ x. so_far.0 ++ x) (sym split) ∙ so_far.1,
        passes-then _ _ _ (waiting_in l.self) so_far.0 so_far.2 _ _ byte put,
      );
      failures = c.make_room.ensures.puts.failures ∙ ap (failures_after (g.W.Sink.failure_count l.writer)) c.in_ok-make_room.was ∙ l.invariant.failures;
    }

pub returns-in_err-make_room : goal.returns-in_err-make_room
returns-in_err-make_room g c = record {
  line =
      let l = c.loop-byte in
      let so_far = l.invariant.so_far in
      let exit = err_from_is_err_and c.from_residual.result c.from_residual.ensures.1 in
      rw exit.1 (subst (Breaks _ _ _) so_far.1
      (passes-breaks _ _ _ (waiting_in l.self) so_far.0 so_far.2 _ (escape l.left.now) (breaks-more _ _ _ [] (escape l.left.now) c.in_err-make_room.ensures.puts.line)));
  failures = search rules;
}

pub returns : goal.returns
returns g c = record {
  line =
      let l = c.loop-byte in
      let so_far = l.invariant.so_far in
      let none = nil_from_length l.left.now c.in_default.ensures.cases in
      subst (Passes _ _ _ _) (sym (append-nil so_far.0) ∙ ap (λ x. so_far.0 ++ escape x) (sym none) ∙ so_far.1) so_far.2;
  failures = search rules;
}
