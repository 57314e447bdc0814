use Rattle.std.proofs.Common.{ℕ, List, [], ◌∷◌, ◌++◌, codes, append_assoc, ap, subst, ◌∙◌, rules}
use Rattle.std.proofs.lemmas.Result.{err_from_is_err_and}
use Rattle.json.specs.Print.{escape}
use Rattle.lbk_cmd.specs.Chunking.{Breaks, Passes}
use Rattle.lbk_cmd.specs.Waiting.{waiting_in}
use Rattle.lbk_cmd.proofs.Pushing.{breaks-more, passes-breaks, passes-placed, passes-then}
use Rattle.lbk_cmd.proofs.waiting.Waiting.push_opening.Goals as goal

pub returns-in_err-push_escaped : goal.returns-in_err-push_escaped
returns-in_err-push_escaped g c = rw c.in-Some.is (record {
  line =
      let head = codes "{\"file\":\"" in
      let name = c.as_bytes.result.now in
      let tail : List ℕ = 34 ∷ 44 ∷ [] in
      let exit = err_from_is_err_and c.from_residual-in_err-push_escaped.result c.from_residual-in_err-push_escaped.ensures.1 in
      let first = passes-then _ _ _ (waiting_in c.make_room.new.self) [] c.in_ok-make_room.ensures.puts.line _ _ head
      (passes-placed _ (waiting_in c.make_room.new.self) _ head c.place_front-self.ensures.bytes) in
      rw exit.1 (subst (Breaks _ _ _) (ap (λ x. head ++ (escape x ++ tail)) c.as_bytes.ensures.value)
      (passes-breaks _ _ _ _ head first _ (escape name ++ tail) (breaks-more _ _ _ (escape name) tail c.in_err-push_escaped.ensures.line)));
  failures = search rules;
})

pub returns-in_err-make_room-2 : goal.returns-in_err-make_room-2
returns-in_err-make_room-2 g c = rw c.in-Some.is (record {
  line =
      let head = codes "{\"file\":\"" in
      let name = c.as_bytes.result.now in
      let tail : List ℕ = 34 ∷ 44 ∷ [] in
      let exit = err_from_is_err_and c.from_residual-in_err-make_room-2.result c.from_residual-in_err-make_room-2.ensures.1 in
      let first = passes-then _ _ _ (waiting_in c.make_room.new.self) [] c.in_ok-make_room.ensures.puts.line _ _ head
      (passes-placed _ (waiting_in c.make_room.new.self) _ head c.place_front-self.ensures.bytes) in
      let second = passes-then _ _ _ _ head first _ (waiting_in c.push_escaped.new.self) (escape name) c.in_ok-push_escaped.ensures.line in
      rw exit.1 (subst (Breaks _ _ _) (append_assoc head (escape name) tail ∙ ap (λ x. head ++ (escape x ++ tail)) c.as_bytes.ensures.value)
      (passes-breaks _ _ _ _ (head ++ escape name) second _ tail (breaks-more _ _ _ [] tail c.in_err-make_room-2.ensures.puts.line)));
  failures = search rules;
})

pub returns : goal.returns
returns g c = rw c.in-Some.is (record {
  line =
      let head = codes "{\"file\":\"" in
      let name = c.as_bytes.result.now in
      let tail : List ℕ = 34 ∷ 44 ∷ [] in
      let first = passes-then _ _ _ (waiting_in c.make_room.new.self) [] c.in_ok-make_room.ensures.puts.line _ _ head
      (passes-placed _ (waiting_in c.make_room.new.self) _ head c.place_front-self.ensures.bytes) in
      let second = passes-then _ _ _ _ head first _ (waiting_in c.push_escaped.new.self) (escape name) c.in_ok-push_escaped.ensures.line in
      let last = passes-then _ _ _ (waiting_in c.make_room-2.new.self) [] c.in_ok-make_room-2.ensures.puts.line _ _ tail
      (passes-placed _ (waiting_in c.make_room-2.new.self) _ tail c.place_front-self-2.ensures.bytes) in
      subst (Passes _ _ _ _) (append_assoc head (escape name) tail ∙ ap (λ x. head ++ (escape x ++ tail)) c.as_bytes.ensures.value)
      (passes-then _ _ _ _ (head ++ escape name) second _ _ tail last);
  failures = search rules;
})
