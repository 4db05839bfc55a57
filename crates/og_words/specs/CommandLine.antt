-- The command line: the arguments of each command, as clap's specs describe them.
use Rattle.std.specs.Prelude.{List, [], ◌∷◌, Some, pos, true, false, codes}
use Rattle.clap.specs.Lexer.{usize_max}
use Rattle.clap.specs.Words.{App, Rule, Shape, Text, new_rule}
use Rattle.clap.specs.Simple.{new_shape}
use Rattle.clap.specs.declared.builder.action.ArgAction.TheVariants.{Append, SetTrue}
use Rattle.clap.specs.declared.builder.value_parser.ValueParser.{ValueParser}
use Rattle.clap.specs.declared.builder.value_parser.ValueParser.TheVariants.{Signed, Unsigned}

-- a word that must be given, in its place
abbrev pub word : Text → Rule
word name = record (new_rule name) { required = true }

-- `--NAME`
abbrev pub flag : Text → Rule
flag name = record (new_rule name) { long = Some name; action = Some SetTrue }

-- `--NAME VALUE`
abbrev pub option : Text → Rule
option name = record (new_rule name) { long = Some name; value_names = 1 }

-- `--NAME N`, and this N where it is not given
abbrev pub number : Text → Text → ValueParser → Rule
number name default within = record (new_rule name) {
  long = Some name;
  value_names = 1;
  defaults = default ∷ [];
  parser = Some within;
}

-- `--smt2`, which does not go with `--triples`
abbrev pub smt2_flag : Rule
smt2_flag = record (flag (codes "smt2")) { is_free = false }

-- `--certs FILE`, which does not go with `--erased`
abbrev pub certs_option : Rule
certs_option = record (option (codes "certs")) { is_free = false }

-- `--schedule P,P,..`, which goes with neither `--certs` nor `--limit`
abbrev pub schedule_option : Rule
schedule_option = record (option (codes "schedule")) { is_free = false }

-- `--no-runs`, which goes with neither `--runs` nor `--limit`
abbrev pub no_runs_flag : Rule
no_runs_flag = record (flag (codes "no-runs")) { is_free = false }

-- `--suggest`, which does not go with `--json`
abbrev pub suggest_flag : Rule
suggest_flag = record (flag (codes "suggest")) { is_free = false }

-- `--dot`, which does not go with `--json`
abbrev pub dot_flag : Rule
dot_flag = record (flag (codes "dot")) { is_free = false }

-- words of this form, as many as there are
abbrev pub words : Text → Rule
words form = record (new_rule form) {
  action = Some Append;
  range = Some (record { start_inclusive = 0; end_inclusive = usize_max });
}

-- variables or constants with a value each
abbrev pub values : Rule
values = words (codes "NAME=INT")

-- variables with a value each, or with the first and the last of their values
abbrev pub ranges : Rule
ranges = words (codes "NAME=INT|LO..HI")

abbrev pub source : Rule
source = word (codes "SOURCE")

abbrev pub template : Rule
template = word (codes "TEMPLATE")

abbrev pub certs : Rule
certs = word (codes "CERTS")

abbrev pub workers : Rule
workers = number (codes "workers") (codes "1") (Signed (pos 1) (pos 64))

abbrev pub budget : Rule
budget = number (codes "budget") (codes "100000") (Unsigned 1 1000000000)

abbrev pub infer_budget : Rule
infer_budget = number (codes "budget") (codes "20000") (Unsigned 1 1000000000)

abbrev pub questions : Rule
questions = number (codes "limit") (codes "100000") (Unsigned 1 1000000000)

abbrev pub version : Rule
version = number (codes "version") (codes "1") (Signed (pos 1) (pos 2))

abbrev pub limit : Rule
limit = number (codes "limit") (codes "1000") (Signed (pos 0) (pos 1000000))

-- a limit of moments, and this one where none is given
abbrev pub moments : Text → Rule
moments default = number (codes "limit") default (Signed (pos 1) (pos 1000000000))

abbrev pub runs_limit : Rule
runs_limit = moments (codes "100000")

-- the same, which goes with `--runs` alone
abbrev pub run_moments : Rule
run_moments = record runs_limit { is_free = false }

-- a command with these arguments
abbrev pub command : Text → List Rule → Shape
command name rules = record (new_shape name) { rules = rules }

abbrev pub prover : Shape
prover =
    command (codes "prove") (source ∷ budget ∷ workers ∷ flag (codes "json") ∷ flag (codes "runs")
    ∷ no_runs_flag ∷ suggest_flag ∷ runs_limit ∷ ranges ∷ [])

abbrev pub infer : Shape
infer =
    command (codes "infer")
    (source ∷ flag (codes "aux") ∷ infer_budget ∷ questions ∷ workers ∷ flag (codes "json") ∷ ranges ∷ [])

abbrev pub check : Shape
check = command (codes "check") (source ∷ certs ∷ workers ∷ flag (codes "json") ∷ [])

abbrev pub notes : Shape
notes = command (codes "notes") (source ∷ budget ∷ values ∷ [])

abbrev pub show : Shape
show =
    command (codes "show")
    (source ∷ budget ∷ workers ∷ flag (codes "runs") ∷ run_moments ∷ ranges ∷ [])

abbrev pub conditions : Shape
conditions =
    command (codes "conditions")
    (source ∷ flag (codes "triples") ∷ smt2_flag ∷ option (codes "only") ∷ [])

abbrev pub finder : Shape
finder = command (codes "find") (source ∷ budget ∷ workers ∷ version ∷ [])

abbrev pub erase : Shape
erase = command (codes "erase") (source ∷ flag (codes "readable") ∷ [])

abbrev pub run : Shape
run =
    command (codes "run")
    (source ∷ limit ∷ flag (codes "erased") ∷ certs_option ∷ schedule_option ∷ values ∷ [])

abbrev pub explorer : Shape
explorer =
    command (codes "explore")
    (source ∷ moments (codes "1000000") ∷ workers ∷ flag (codes "erased") ∷ flag (codes "json") ∷ dot_flag ∷ ranges ∷ [])

abbrev pub translator : Shape
translator = command (codes "promela") (source ∷ flag (codes "erased") ∷ ranges ∷ [])

abbrev pub expander : Shape
expander = command (codes "expand") (template ∷ flag (codes "map") ∷ values ∷ [])

abbrev pub formatter : Shape
formatter = command (codes "fmt") (source ∷ flag (codes "check") ∷ [])

abbrev pub editor : Shape
editor = command (codes "lsp") []

abbrev pub migrate : Shape
migrate = command (codes "migrate") (certs ∷ [])

-- the program with its name and a version, and no commands
abbrev pub without_commands : App
without_commands = record {
  top = record (new_shape (codes "og")) {
    no_binary_name = true;
    disable_help_subcommand = true;
    subcommand_required = true;
    has_version = true;
  };
  subs = [];
}

-- the program, which is given the words after its name
abbrev pub og : App
og = record {
  top = record (new_shape (codes "og")) {
    is_leaf = false;
    no_binary_name = true;
    disable_help_subcommand = true;
    subcommand_required = true;
    has_version = true;
  };
  subs =
      prover ∷ infer ∷ check ∷ notes ∷ show ∷ conditions ∷ finder ∷ erase ∷ run ∷ explorer ∷ translator
      ∷ expander ∷ formatter ∷ editor ∷ migrate ∷ [];
}
