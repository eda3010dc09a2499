mod Keys
mod SilentRows
