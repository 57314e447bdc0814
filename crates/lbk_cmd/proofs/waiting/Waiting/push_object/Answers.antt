use Rattle.std.proofs.Common.{ℕ, List, [], ◌∷◌, ◌++◌, Option, append_assoc, option_map, subst, sym, ◌∙◌, rules}
use Rattle.std.specs.Borrow.{Bor}
use Rattle.std.proofs.lemmas.Result.{err_from_is_err_and}
use Rattle.json.specs.Print.{escape}
use Rattle.lbk_chunk_reader.specs.Numbered.{numbered_chunk}
use Rattle.lbk_cmd.specs.Chunking.{Breaks, Passes}
use Rattle.lbk_cmd.specs.Objects.{front_of_object, opening}
use Rattle.lbk_cmd.specs.Waiting.{waiting_in}
use Rattle.lbk_cmd.proofs.ChunkLines.{object-joined}
use Rattle.lbk_cmd.proofs.Pushing.{breaks-more, passes-breaks, passes-placed, passes-then}
use Rattle.lbk_cmd.proofs.waiting.Waiting.push_object.Goals as goal

abbrev named : Option (Bor (List ℕ)) → Option (List ℕ)
named file = option_map (λ name. name.now) file

pub returns-in_err-push_opening : goal.returns-in_err-push_opening
returns-in_err-push_opening g c = record {
  line =
      let file = named c.args.file in
      let text = c.args.text.now in
      let chunk = numbered_chunk c.args.chunk.now in
      let exit = err_from_is_err_and c.from_residual.result c.from_residual.ensures.1 in
      rw exit.1 (subst (Breaks _ _ _) (sym (object-joined file text chunk))
      (breaks-more _ _ _ (opening file) (front_of_object chunk ++ (escape text ++ (34 ∷ 125 ∷ 10 ∷ []))) c.in_err-push_opening.ensures.line));
  failures = search rules;
}

pub returns-in_err-make_room : goal.returns-in_err-make_room
returns-in_err-make_room g c = record {
  line =
      let file = named c.args.file in
      let text = c.args.text.now in
      let chunk = numbered_chunk c.args.chunk.now in
      let rest = front_of_object chunk ++ (escape text ++ (34 ∷ 125 ∷ 10 ∷ [])) in
      let exit = err_from_is_err_and c.from_residual-in_err-make_room.result c.from_residual-in_err-make_room.ensures.1 in
      rw exit.1 (subst (Breaks _ _ _) (sym (object-joined file text chunk))
      (passes-breaks _ _ _ _ (opening file) c.in_ok-push_opening.ensures.line _ rest (breaks-more _ _ _ [] rest c.in_err-make_room.ensures.puts.line)));
  failures = search rules;
}

pub returns-in_err-push_escaped : goal.returns-in_err-push_escaped
returns-in_err-push_escaped g c = record {
  line =
      let file = named c.args.file in
      let text = c.args.text.now in
      let chunk = numbered_chunk c.args.chunk.now in
      let front = front_of_object chunk in
      let tail = 34 ∷ 125 ∷ 10 ∷ [] in
      let exit = err_from_is_err_and c.from_residual-in_err-push_escaped.result c.from_residual-in_err-push_escaped.ensures.1 in
      let first = passes-then _ _ _ (waiting_in c.make_room.new.self) [] c.in_ok-make_room.ensures.puts.line _ _ front
      (passes-placed _ (waiting_in c.make_room.new.self) _ front c.place_front_of_object-self.ensures.bytes) in
      rw exit.1 (subst (Breaks _ _ _) (sym (object-joined file text chunk))
      (passes-breaks _ _ _ _ (opening file) c.in_ok-push_opening.ensures.line _ (front ++ (escape text ++ tail))
      (passes-breaks _ _ _ _ front first _ (escape text ++ tail) (breaks-more _ _ _ (escape text) tail c.in_err-push_escaped.ensures.line))));
  failures = search rules;
}

pub returns-in_err-make_room-2 : goal.returns-in_err-make_room-2
returns-in_err-make_room-2 g c = record {
  line =
      let file = named c.args.file in
      let text = c.args.text.now in
      let chunk = numbered_chunk c.args.chunk.now in
      let front = front_of_object chunk in
      let tail = 34 ∷ 125 ∷ 10 ∷ [] in
      let exit = err_from_is_err_and c.from_residual-in_err-make_room-2.result c.from_residual-in_err-make_room-2.ensures.1 in
      let first = passes-then _ _ _ (waiting_in c.make_room.new.self) [] c.in_ok-make_room.ensures.puts.line _ _ front
      (passes-placed _ (waiting_in c.make_room.new.self) _ front c.place_front_of_object-self.ensures.bytes) in
      let second = passes-then _ _ _ _ front first _ (waiting_in c.push_escaped.new.self) (escape text) c.in_ok-push_escaped.ensures.line in
      rw exit.1 (subst (Breaks _ _ _) (sym (object-joined file text chunk))
      (passes-breaks _ _ _ _ (opening file) c.in_ok-push_opening.ensures.line _ (front ++ (escape text ++ tail))
      (subst (Breaks _ _ _) (append_assoc front (escape text) tail)
      (passes-breaks _ _ _ _ (front ++ escape text) second _ tail (breaks-more _ _ _ [] tail c.in_err-make_room-2.ensures.puts.line)))));
  failures = search rules;
}

pub returns : goal.returns
returns g c = record {
  line =
      let file = named c.args.file in
      let text = c.args.text.now in
      let chunk = numbered_chunk c.args.chunk.now in
      let front = front_of_object chunk in
      let tail = 34 ∷ 125 ∷ 10 ∷ [] in
      let first = passes-then _ _ _ (waiting_in c.make_room.new.self) [] c.in_ok-make_room.ensures.puts.line _ _ front
      (passes-placed _ (waiting_in c.make_room.new.self) _ front c.place_front_of_object-self.ensures.bytes) in
      let second = passes-then _ _ _ _ front first _ (waiting_in c.push_escaped.new.self) (escape text) c.in_ok-push_escaped.ensures.line in
      let last = passes-then _ _ _ (waiting_in c.make_room-2.new.self) [] c.in_ok-make_room-2.ensures.puts.line _ _ tail
      (passes-placed _ (waiting_in c.make_room-2.new.self) _ tail c.place_front-self.ensures.bytes) in
      subst (Passes _ _ _ _) (sym (object-joined file text chunk))
      (passes-then _ _ _ _ (opening file) c.in_ok-push_opening.ensures.line _ _ (front ++ (escape text ++ tail))
      (subst (Passes _ _ _ _) (append_assoc front (escape text) tail) (passes-then _ _ _ _ (front ++ escape text) second _ _ tail last)));
  failures = search rules;
}
