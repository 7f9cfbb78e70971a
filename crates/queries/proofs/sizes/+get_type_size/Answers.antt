-- What could not be read, a primitive and a chain that is too long are told at once; any other record tells its size, or the index that it goes on with.
use borrow.Author.Rules.{rules}
use Rattle.rules.specs.Record.{type_contents}
use Rattle.rules.specs.Sizes.{record_size, named_size}
use Rattle.context.specs.Context.{settings_of}
use Rattle.rules.specs.Flags.{settings}
use Rattle.queries.proofs.ChainLaws.{size-refused, size-primitive, size-long, size-told, size-next}
use Rattle.queries.proofs.sizes.+get_type_size.Goals as goal

pub returns-in_default : goal.returns-in_default
returns-in_default t c = search (size-refused, rules)

pub returns-in-Primitive : goal.returns-in-Primitive
returns-in-Primitive t c = search (size-primitive, rules)

pub returns-in_default-t : goal.returns-in_default-t
returns-in_default-t t c = search (size-long, rules)

pub returns-in-Pointer : goal.returns-in-Pointer
unfolding record_size type_contents
returns-in-Pointer t c = search (size-told, rules)

pub returns-in-Procedure : goal.returns-in-Procedure
unfolding record_size type_contents settings_of settings
returns-in-Procedure t c = search (size-told, rules)

pub returns-in-ArgumentList : goal.returns-in-ArgumentList
unfolding record_size type_contents named_size
returns-in-ArgumentList t c = search (size-told, rules)

pub returns-in-Enumerate : goal.returns-in-Enumerate
unfolding record_size type_contents named_size
returns-in-Enumerate t c = search (size-told, rules)

pub returns-in-Array : goal.returns-in-Array
unfolding record_size type_contents
returns-in-Array t c = search (size-told, rules)

pub returns-in-Class : goal.returns-in-Class
unfolding record_size named_size type_contents
returns-in-Class t c = search (size-told, c.get_layout_size.ensures c.args.call, rules)

pub returns-in-Union : goal.returns-in-Union
unfolding record_size named_size type_contents
returns-in-Union t c = search (size-told, c.get_layout_size-in-Union.ensures c.args.call, rules)

pub returns-in-Modifier : goal.returns-in-Modifier
unfolding record_size named_size type_contents
returns-in-Modifier t c = search (size-next, rules)

pub returns-in-Enumeration : goal.returns-in-Enumeration
unfolding record_size named_size type_contents
returns-in-Enumeration t c = search (size-next, rules)
