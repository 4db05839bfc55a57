mod Trees
mod Weights
mod Resolve
