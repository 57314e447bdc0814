use Rattle.std.proofs.Common.{true, ap, codes, ◌∙◌}
use Rattle.clap.specs.Words.{Rule, rule_of}
use Rattle.clap.specs.declared.builder.arg.Arg.{Arg}
use Rattle.lbk_args.specs.Command.{value_rule}
use Rattle.lbk_args.specs.Made.{IsOption}
use Rattle.lbk_args.proofs.options.sized.Goals as goal

pub returns : goal.returns
returns c =
    let most : IsOption (record (value_rule (codes "most")) { required = true }) c.required-most.result = record {
      is_rule = ap rule_of c.required-most.ensures
          ∙ ap (λ (r : Rule). record r { required = true }) c.value_option.ensures.is_rule;
      local = ap (λ (a : Arg). a.global) c.required-most.ensures ∙ c.value_option.ensures.local;
    } in
    c.with_option.ensures _ _ c.texts_option.ensures
    (c.with_option-command-4.ensures _ _ c.value_option-3.ensures
    (c.with_option-command-3.ensures _ _ c.value_option-2.ensures
    (c.with_option-command-2.ensures _ _ c.words_option.ensures
    (c.with_option-command.ensures _ _ most c.with_files.ensures))))
