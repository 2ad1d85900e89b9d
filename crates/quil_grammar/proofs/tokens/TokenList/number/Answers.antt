use Rattle.std.proofs.Common.{◌∙◌}
use Rattle.quil_grammar.proofs.Names.{number_by_text, names_by_text}
use Rattle.quil_grammar.proofs.tokens.TokenList.number.Goals as goal

pub returns-clause-number : goal.returns-clause-number
returns-clause-number c = c.in_ok-index.ensures.index ∙ number_by_text c.args.name c.args.self.now.names.keys

pub returns-clause-names : goal.returns-clause-names
returns-clause-names c = names_by_text c.args.name c.args.self.now.names.keys c.insert_full.new.self.keys c.in_ok-index.ensures.keys
